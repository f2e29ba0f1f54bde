use Rattle.std.proofs.Common.{◌≡◌, ℕ, ◌<◌}
use Rattle.multilinear.specs.Lent.{lent}
use Rattle.folding.specs.Folds.{shifted}
use Rattle.folding.proofs.shifting.shift.Given as goal

abbrev pub invariant-loop-j : goal.invariant-loop-j
invariant-loop-j g l =
    let m = g.L.Level in
    (j : ℕ) → j < l.j → lent m.means l.out j ≡ shifted l.columns.row_variables (lent m.means l.inner) j
