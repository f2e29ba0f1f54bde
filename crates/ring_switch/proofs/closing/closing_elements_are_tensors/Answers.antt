use Rattle.ring_switch.proofs.ClosingElements.{closing_elements_are_tensors}
use Rattle.ring_switch.proofs.closing.closing_elements_are_tensors.Goals as goal

pub returns : goal.returns
returns c = closing_elements_are_tensors
