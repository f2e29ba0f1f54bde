use Rattle.ring_switch.proofs.Initial.{rows_are_batched}
use Rattle.ring_switch.proofs.batching.rows_are_batched.Goals as goal

pub returns : goal.returns
returns c = rows_are_batched
