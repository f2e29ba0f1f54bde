use Rattle.std.proofs.Common.{◌≡◌, ℕ, ◌<◌}
use Rattle.multilinear.specs.Lent.{lent}
use Rattle.basis.specs.Tables.{looked_up}
use Rattle.basis.proofs.coordinate_sums.CoordinateSums.apply_into.Given as goal

abbrev pub invariant-loop-i : goal.invariant-loop-i
invariant-loop-i g l =
    let m = g.L.Level in
    (i : ℕ) → i < l.i → lent m.means l.output i ≡ looked_up (lent m.means l.self.tables.now) (lent m.means l.input i)
