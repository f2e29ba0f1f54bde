use Rattle.multilinear.specs.Lent.{lent}
use Rattle.basis.proofs.CompletedTables.{CompletedBelow}
use Rattle.basis.proofs.coordinate_sums.complete.Given as goal

abbrev pub invariant-loop-position : goal.invariant-loop-position
invariant-loop-position g l = CompletedBelow (lent g.L.Level.means l.initial.tables) (lent g.L.Level.means l.tables) l.position
