use Rattle.folding.proofs.Slots.{carry_made}
use Rattle.folding.proofs.slot_table.SlotTable.carry.Goals as goal

pub returns-clause-rows : goal.returns-clause-rows
returns-clause-rows g c =
    let s = c.args.self.now in
    carry_made g.L.Level.means g.met.L.Level.ring s.equality.outer.now s.equality.inner.now c.args.columns.row_variables s.equality.log_block _ _ _ _ _ _ _
    s.equality.block s.matched c.clear.ensures c.shift.ensures c.new.ensures c.add_blocks.ensures c.add_all_entering.ensures
