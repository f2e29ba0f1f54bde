use Rattle.std.proofs.Common.{◌≡◌, ◌*◌}
use Rattle.multilinear.specs.Lent.{lent}
use Rattle.tensor_algebra.specs.Tensor.{exterior, add}
use Rattle.multilinear.proofs.Places.{Written}
use Rattle.tensor.proofs.bit_tensor.BitTensor.add_bytes.Given as goal

abbrev pub invariant-loop-j : goal.invariant-loop-j
invariant-loop-j g l =
    let means = g.L.Level.means in
    let first = l.initial.self.rows in
    record {
      same : l.self.rows.ghost_name ≡ first.ghost_name;
      added : Written means (add (lent means first.now) (exterior (means l.fn.a) (means l.b))) first.now l.self.rows.now (8 * l.j);
    }
