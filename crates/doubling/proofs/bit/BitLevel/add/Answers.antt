use Rattle.doubling.proofs.Bits.{bit_plus}
use Rattle.doubling.proofs.bit.BitLevel.add.Goals as goal

pub returns : goal.returns
returns c = bit_plus c.args.self.set c.args.other.set _ c.exclusive_or.ensures
