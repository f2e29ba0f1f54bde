use Rattle.multilinear.specs.Lent.{lent}
use Rattle.basis.proofs.CompletedTables.{Placed}
use Rattle.basis.proofs.coordinate_sums.tabulate.Given as goal

abbrev pub invariant-loop-coordinate : goal.invariant-loop-coordinate
invariant-loop-coordinate g l = Placed (lent g.L.Level.means l.weights.elements.now) (lent g.L.Level.means l.tables) l.coordinate
