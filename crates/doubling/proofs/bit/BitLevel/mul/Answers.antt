use Rattle.doubling.proofs.Bits.{bit_times}
use Rattle.doubling.proofs.bit.BitLevel.mul.Goals as goal

pub returns : goal.returns
returns c = bit_times c.args.self.set c.args.other.set _ c.both.ensures
