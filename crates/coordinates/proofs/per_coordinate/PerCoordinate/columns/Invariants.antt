use Rattle.multilinear.specs.Lent.{lent}
use Rattle.tensor_algebra.specs.Tensor.{column}
use Rattle.multilinear.proofs.Places.{Written}
use Rattle.coordinates.proofs.per_coordinate.PerCoordinate.columns.Given as goal

abbrev pub invariant-loop-v : goal.invariant-loop-v
invariant-loop-v g l = let means = g.L.Level.means in Written means (column (lent means l.self.elements.now)) l.initial.out l.out l.v
