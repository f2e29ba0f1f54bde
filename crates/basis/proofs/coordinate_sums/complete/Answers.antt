use Rattle.std.proofs.Common.{arith, length-drop}
use Rattle.std.proofs.lemmas.List.{length-take}
use Rattle.basis.proofs.CompletedTables.{completed_part, completed_more}
use Rattle.basis.proofs.coordinate_sums.complete.Goals as goal

pub loop-position-preserved : goal.loop-position-preserved
loop-position-preserved g c =
    let n = c.loop-position.position in
    completed_more _ _ _ n c.loop-position.invariant
    (completed_part g.L.Level.means c.loop-position.tables c.complete_position.new.table n _ (omega arith) (omega arith)
    (omega (arith, simp (length-take, length-drop) at c.complete_position.auto.table)) c.complete_position.ensures)
