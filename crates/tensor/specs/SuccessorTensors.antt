-- The tensors that are sent for a successor claim, by what their elements mean. Where none are sent they are zero.
use Rattle.std.specs.Prelude.{Some, None, Option}
use Rattle.level.specs.declared.level.Level.{Ghosts}
use Rattle.multilinear.specs.Lent.{lent}
use Rattle.tensor_algebra.specs.Tensor.{Tensor, nothing}
use Rattle.tensor.specs.declared.successor_tensors.SuccessorTensors.{SuccessorTensors}

module _ {X : Type 0} {L : Ghosts X} where
  abbrev pub carry_of : Option (SuccessorTensors X L) → Tensor L.log
  carry_of None = nothing
  carry_of (Some t) = lent L.means t.carry.elements.now

  abbrev pub last_of : Option (SuccessorTensors X L) → Tensor L.log
  last_of None = nothing
  last_of (Some t) = lent L.means t.last.elements.now
