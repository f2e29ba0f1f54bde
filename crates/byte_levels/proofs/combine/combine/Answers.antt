use Rattle.byte_levels.proofs.Selected.{selected_more, selected_all}
use Rattle.byte_levels.proofs.combine.combine.Goals as goal

pub loop-row-preserved : goal.loop-row-preserved
loop-row-preserved c =
    selected_more c.args.rows.now c.loop-row.row-index c.loop-row.bits _ _ _ c.loop-row-test.true c.at_lowest-sum.ensures c.loop-row.invariant

pub returns : goal.returns
returns c = selected_all c.args.rows.now c.loop-row.row-index c.loop-row.bits _ _ c.loop-row-test.false c.loop-row.invariant
