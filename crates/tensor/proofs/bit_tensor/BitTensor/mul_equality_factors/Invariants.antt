use Rattle.std.proofs.Common.{◌≡◌, map, length}
use Rattle.multilinear.specs.Lent.{lent}
use Rattle.tensor_algebra.specs.Tensor.{nothing, equality_factors}
use Rattle.tensor.proofs.Folds.{factors_from}
use Rattle.tensor.proofs.bit_tensor.BitTensor.mul_equality_factors.Given as goal

abbrev pub invariant-loop-a : goal.invariant-loop-a
invariant-loop-a g l =
    let m = g.L.Level in
    let means = m.means in
    let first = l.initial.self.rows in
    record {
      same : l.self.rows.ghost_name ≡ first.ghost_name;
      factors : factors_from means m.arithmetic l.point l.other (length l.yielded) (lent means l.self.rows.now)
          ≡ equality_factors m.arithmetic (map means l.point) (map means l.other) (lent means first.now);
      scratch : lent means l.scratch ≡ nothing;
    }
