use Rattle.ring_switch.proofs.Successor.{successor_is_multilinear}
use Rattle.ring_switch.proofs.claims.successor_is_multilinear.Goals as goal

pub returns : goal.returns
returns c = search successor_is_multilinear
