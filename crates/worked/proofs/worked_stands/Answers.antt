use Rattle.worked.proofs.Worked.{worked}
use Rattle.worked.proofs.worked_stands.Goals as goal

pub returns : goal.returns
returns c = worked
