use Rattle.std.proofs.Common.{rules}
use Rattle.tensor.proofs.Turns.{scaled_more, scaled_all}
use Rattle.tensor.proofs.bit_tensor.BitTensor.scale_rows.Goals as goal

pub loop-row-preserved : goal.loop-row-preserved
loop-row-preserved g c = search (rules, scaled_more)

pub returns-clause-rows : goal.returns-clause-rows
returns-clause-rows g c = let laws = g.met.L.Level.ring in search (rules, scaled_all)
