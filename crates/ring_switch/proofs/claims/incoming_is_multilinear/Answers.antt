use Rattle.ring_switch.proofs.Incoming.{incoming_is_multilinear}
use Rattle.ring_switch.proofs.claims.incoming_is_multilinear.Goals as goal

pub returns : goal.returns
returns c = search incoming_is_multilinear
