use Rattle.job_rules.proofs.Asking.{weights_told}
use Rattle.job_rules.proofs.laws.weights_are_told.Goals as goal

pub returns : goal.returns
returns c = λ k A size requests l e b. weights_told A size requests l e b
