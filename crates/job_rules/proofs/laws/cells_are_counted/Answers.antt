use Rattle.job_rules.proofs.Counted.{cells_counted}
use Rattle.job_rules.proofs.laws.cells_are_counted.Goals as goal

pub returns : goal.returns
returns c = cells_counted
