use Rattle.ring_switch.proofs.ClosingElements.{closing_is_multilinear}
use Rattle.ring_switch.proofs.closing.closing_is_multilinear.Goals as goal

pub returns : goal.returns
returns c = closing_is_multilinear
