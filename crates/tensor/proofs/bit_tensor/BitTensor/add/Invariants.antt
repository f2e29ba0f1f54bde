use Rattle.multilinear.specs.Lent.{lent}
use Rattle.tensor_algebra.specs.Tensor.{add}
use Rattle.multilinear.proofs.Places.{Written}
use Rattle.tensor.proofs.bit_tensor.BitTensor.add.Given as goal

abbrev pub invariant-loop-u : goal.invariant-loop-u
invariant-loop-u g l =
    let means = g.L.Level.means in
    Written means (add (lent means l.initial.row-items) (lent means l.other.elements.now)) l.initial.row-items l.row-items l.u
