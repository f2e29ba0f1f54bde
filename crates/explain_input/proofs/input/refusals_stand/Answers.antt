use Rattle.explain_input.proofs.Refusing.{refused_say_nothing}
use Rattle.explain_input.proofs.input.refusals_stand.Goals as goal

pub returns : goal.returns
returns c = refused_say_nothing
