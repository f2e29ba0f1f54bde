use Rattle.std.proofs.Common.{◌≡◌, ℕ, ◌<◌, map}
use Rattle.multilinear.specs.Equality.{equality}
use Rattle.multilinear.specs.Lent.{lent}
use Rattle.plain.proofs.points.equality_entries.Given as goal

abbrev pub invariant-loop-i : goal.invariant-loop-i
invariant-loop-i g l =
    let m = g.L.Level in
    (j : ℕ) → j < l.i → lent m.means l.out j ≡ equality m.arithmetic (map m.means l.point) j
