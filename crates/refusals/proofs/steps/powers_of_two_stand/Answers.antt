use Rattle.refusals.proofs.Powers.{powers_of_two}
use Rattle.refusals.proofs.steps.powers_of_two_stand.Goals as goal

pub returns : goal.returns
returns c = powers_of_two
