use Rattle.folding.proofs.Folds.{all_none, all_more}
use Rattle.folding.proofs.slot_table.SlotTable.add_all_entering.Goals as goal

pub loop-b-init : goal.loop-b-init
loop-b-init g c = all_none _ _

pub loop-b-preserved : goal.loop-b-preserved
loop-b-preserved g c = all_more _ _ c.loop-b.b _ _ c.add_entering.ensures c.loop-b.invariant
