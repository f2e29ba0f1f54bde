use Rattle.job_rules.proofs.Reaching.{all_reached}
use Rattle.job_rules.proofs.laws.jobs_reach.Goals as goal

pub returns : goal.returns
returns c = all_reached
