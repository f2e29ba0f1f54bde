use Rattle.multilinear.specs.Lent.{lent}
use Rattle.basis.proofs.CompletedTables.{Begun}
use Rattle.basis.proofs.coordinate_sums.complete_position.Given as goal

abbrev pub invariant-loop-subset : goal.invariant-loop-subset
invariant-loop-subset g l = Begun (lent g.L.Level.means l.initial.table) (lent g.L.Level.means l.table) 0 l.subset
