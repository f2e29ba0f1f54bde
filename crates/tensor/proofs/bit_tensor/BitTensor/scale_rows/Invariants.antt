use Rattle.multilinear.specs.Lent.{lent}
use Rattle.tensor_algebra.specs.Tensor.{scale_rows}
use Rattle.multilinear.proofs.Places.{Written}
use Rattle.tensor.proofs.bit_tensor.BitTensor.scale_rows.Given as goal

abbrev pub invariant-loop-row : goal.invariant-loop-row
invariant-loop-row g l =
    let m = g.L.Level in
    Written m.means (scale_rows m.arithmetic (m.means l.b) (lent m.means l.initial.row-items)) l.initial.row-items l.row-items l.row-index
