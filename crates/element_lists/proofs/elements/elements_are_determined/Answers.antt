use Rattle.element_lists.proofs.Determined.{elements_determined}
use Rattle.element_lists.proofs.elements.elements_are_determined.Goals as goal

pub returns : goal.returns
returns c = elements_determined
