use Rattle.std.proofs.Common.{◌≡◌, ◌+◌, ◌-◌, ◌*◌, ◌^◌}
use Rattle.multilinear.specs.Lent.{lent}
use Rattle.folding.specs.Folds.{with_all}
use Rattle.folding.specs.Slots.{term_of}
use Rattle.folding.proofs.slot_table.SlotTable.last.Given as goal

abbrev pub invariant-loop-c : goal.invariant-loop-c
invariant-loop-c g l =
    let m = g.L.Level in
    let s = l.self in
    let column = 2 ^ l.columns.row_variables in
    lent m.means l.rows
    ≡ with_all (lent m.means l.initial.rows) (λ i. let w = i * column + (column - 1) in term_of m s w w) l.c
