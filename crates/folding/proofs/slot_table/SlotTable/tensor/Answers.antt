use Rattle.folding.proofs.Slots.{tensor_made}
use Rattle.folding.proofs.slot_table.SlotTable.tensor.Goals as goal

pub returns-clause-rows : goal.returns-clause-rows
returns-clause-rows g c =
    let s = c.args.self.now in
    tensor_made g.L.Level.means g.met.L.Level.ring s.equality.outer.now s.equality.inner.now _ _ _ _ _ s.matched c.clear.ensures c.new.ensures c.add_blocks.ensures
