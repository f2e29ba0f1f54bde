use Rattle.std.proofs.Common.{length, arith}
use Rattle.multilinear.specs.Lent.{lent}
use Rattle.folding.proofs.Folds.{all_none, block_more}
use Rattle.folding.proofs.slot_table.SlotTable.add_blocks.Goals as goal

pub loop-b-init : goal.loop-b-init
loop-b-init g c = all_none _ _

pub loop-b-preserved : goal.loop-b-preserved
loop-b-preserved g c =
    let m = g.L.Level in
    block_more m.means m.arithmetic (lent m.means c.args.rows.now) c.args.self.now.equality.outer.now c.args.left.now.left.now c.args.self.now.values.now
    c.block_at.result.now (length c.args.self.now.equality.inner.now) c.loop-b.b c.block_len-len.result c.index-outer-b.result _ _ c.block_len-len.ensures c.requires.left (omega arith)
    c.index-outer-b.is c.block_at.ensures c.add_block.ensures c.loop-b.invariant
