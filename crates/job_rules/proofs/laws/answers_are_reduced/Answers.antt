use Rattle.job_rules.proofs.Tensors.{always_by_tensors}
use Rattle.job_rules.proofs.laws.answers_are_reduced.Goals as goal

pub returns : goal.returns
returns c = always_by_tensors
