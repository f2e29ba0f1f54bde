use Rattle.doubling.proofs.Bits.{bit_same}
use Rattle.doubling.proofs.bit.BitLevel.equals.Goals as goal

pub returns-clause-found : goal.returns-clause-found
returns-clause-found c e = c.same.ensures.found (bit_same _ _ e)
