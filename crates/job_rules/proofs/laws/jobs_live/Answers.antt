use Rattle.job_rules.proofs.Living.{lived}
use Rattle.job_rules.proofs.laws.jobs_live.Goals as goal

pub returns : goal.returns
returns c = λ k A size requests told replied. lived A size requests told replied
