use Rattle.std.proofs.Common.{rules}
use Rattle.tensor.proofs.Turns.{added_more, added_all}
use Rattle.tensor.proofs.bit_tensor.BitTensor.add.Goals as goal

pub loop-u-preserved : goal.loop-u-preserved
loop-u-preserved g c = search (rules, added_more)

pub returns-clause-rows : goal.returns-clause-rows
returns-clause-rows g c = search (rules, added_all)
