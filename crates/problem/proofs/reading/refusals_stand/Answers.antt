use Rattle.problem.proofs.Asking.{refused_ask_nothing}
use Rattle.problem.proofs.reading.refusals_stand.Goals as goal

pub returns : goal.returns
returns c = refused_ask_nothing
