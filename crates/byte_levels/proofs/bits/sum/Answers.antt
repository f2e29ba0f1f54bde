use Rattle.std.proofs.Common.{rules}
use Rattle.level.proofs.Elements.{cut_xor}
use Rattle.byte_levels.proofs.bits.sum.Goals as goal

pub returns : goal.returns
returns c = search (rules, cut_xor)
