use Rattle.explain_input.proofs.Saying.{parts_determined}
use Rattle.explain_input.proofs.input.parts_are_determined.Goals as goal

pub returns : goal.returns
returns c = parts_determined
