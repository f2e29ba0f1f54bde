use Rattle.std.proofs.Common.{◌≡◌, ◌-◌, length}
use Rattle.multilinear.specs.Lent.{lent}
use Rattle.tensor_algebra.specs.Tensor.{nothing}
use Rattle.tensor.proofs.Folds.{Folded}
use Rattle.tensor.proofs.bit_tensor.BitTensor.successor_element.Given as goal

abbrev pub invariant-loop-a : goal.invariant-loop-a
invariant-loop-a g l =
    let m = g.L.Level in
    let means = m.means in
    let left = length l.point - length l.yielded in
    record {
      same : l.self.rows.ghost_name ≡ l.initial.self.rows.ghost_name;
      folded : Folded means m.arithmetic l.point l.other left (lent means l.self.rows.now) (means l.carry.first) (means l.carry.second);
      scratch : lent means l.scratch ≡ nothing;
    }
