use Rattle.std.proofs.Common.{rules}
use Rattle.tensor.proofs.ColumnTurns.{rows_none, rows_more, rows_all}
use Rattle.tensor.proofs.bit_tensor.BitTensor.add_scaled_columns.Goals as goal

pub loop-u-init : goal.loop-u-init
loop-u-init g c = search (rules, rows_none)

pub loop-u-preserved : goal.loop-u-preserved
loop-u-preserved g c = search (rules, rows_more)

pub returns-clause-rows : goal.returns-clause-rows
returns-clause-rows g c = let laws = g.met.L.Level.ring in search (rules, rows_all)
