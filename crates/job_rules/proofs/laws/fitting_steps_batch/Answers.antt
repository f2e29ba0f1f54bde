use Rattle.job_rules.proofs.Fitting.{fitting_steps}
use Rattle.job_rules.proofs.laws.fitting_steps_batch.Goals as goal

pub returns : goal.returns
returns c = λ k A size bytes o batching challenge fits. fitting_steps A size bytes o batching challenge fits
