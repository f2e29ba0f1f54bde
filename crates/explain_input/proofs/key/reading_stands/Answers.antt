use Rattle.explain_input.proofs.Determined.{reading}
use Rattle.explain_input.proofs.key.reading_stands.Goals as goal

pub returns : goal.returns
returns c = reading
