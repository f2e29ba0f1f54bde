use Rattle.std.proofs.Common.{◌≡◌, ◌*◌, ◌<◌, length, sym, ap, ◌∙◌}
use Rattle.multilinear.specs.Columns.{starts}
use Rattle.folding.specs.Slots.{values_of, table_of}
use Rattle.folding.proofs.Slots.{none_enters, first_enters, later_block}
use Rattle.folding.proofs.slot_table.SlotTable.add_entering.Goals as goal

pub add_first-requires-clause-place : goal.add_first-requires-clause-place
add_first-requires-clause-place g c =
    let r = c.args.columns.row_variables in
    let m = length c.args.self.now.equality.inner.now in
    let place : starts r (c.args.b * c.block_len.result) ≡ starts r (c.args.b * m) = ap (λ n. starts r (c.args.b * n)) c.block_len.ensures in
    let later : 0 < c.args.b = later_block r m c.args.b (sym (c.if-not-starts.ensures ∙ place)) in
    (later, c.requires.place)

pub returns-then-not-starts : goal.returns-then-not-starts
returns-then-not-starts g c =
    let r = c.args.columns.row_variables in
    let s = c.args.self.now in
    let m = g.L.Level in
    first_enters r (length s.equality.inner.now) (table_of m s) (values_of m s) c.args.b _ _
    (sym (c.if-not-starts.ensures ∙ ap (λ n. starts r (c.args.b * n)) c.block_len.ensures)) c.add_first.ensures

pub returns-else-not-starts : goal.returns-else-not-starts
returns-else-not-starts g c =
    let r = c.args.columns.row_variables in
    none_enters r (length c.args.self.now.equality.inner.now) _ _ c.args.b _
    (sym (c.if-not-starts.ensures ∙ ap (λ n. starts r (c.args.b * n)) c.block_len.ensures))
