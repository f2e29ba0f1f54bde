use Rattle.std.proofs.Common.{◌≡◌}
use Rattle.multilinear.specs.Lent.{lent}
use Rattle.folding.specs.Folds.{with_all}
use Rattle.folding.specs.Slots.{entering_of}
use Rattle.folding.proofs.slot_table.SlotTable.add_all_entering.Given as goal

abbrev pub invariant-loop-b : goal.invariant-loop-b
invariant-loop-b g l =
    let m = g.L.Level in
    let s = l.self in
    lent m.means l.rows
    ≡ with_all (lent m.means l.initial.rows) (entering_of m s l.columns.row_variables) l.b
