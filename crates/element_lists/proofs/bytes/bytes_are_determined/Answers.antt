use Rattle.element_lists.proofs.Determined.{bytes_determined}
use Rattle.element_lists.proofs.bytes.bytes_are_determined.Goals as goal

pub returns : goal.returns
returns c = bytes_determined
