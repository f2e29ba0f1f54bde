use Rattle.ring_switch.proofs.Initial.{initial_sum_is_weighted}
use Rattle.ring_switch.proofs.batching.initial_sum_is_weighted.Goals as goal

pub returns : goal.returns
returns c = initial_sum_is_weighted
