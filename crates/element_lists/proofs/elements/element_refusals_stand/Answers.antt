use Rattle.element_lists.proofs.Joining.{refused_write_no_elements}
use Rattle.element_lists.proofs.elements.element_refusals_stand.Goals as goal

pub returns : goal.returns
returns c = refused_write_no_elements
