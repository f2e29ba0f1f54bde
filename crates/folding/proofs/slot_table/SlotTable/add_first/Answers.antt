use Rattle.std.proofs.Common.{◌≡◌, ◌+◌, ◌-◌, ◌*◌, ◌<◌, ◌≤◌, length, sym, ap, ◌∙◌, ap₂, arith, pow_pos}
use Rattle.multilinear.specs.Lent.{lent}
use Rattle.tensor_algebra.specs.Tensor.{exterior, add}
use Rattle.multilinear.proofs.Lent.{lent_read}
use Rattle.folding.specs.Slots.{values_of, table_of}
use Rattle.folding.proofs.Folds.{block_inside}
use Rattle.folding.proofs.slot_table.SlotTable.add_first.Goals as goal

pub returns : goal.returns
returns g c =
    let m = g.L.Level in
    let s = c.args.self.now in
    let len = c.block_len.result in
    let filled : 0 < len = omega (arith, s.equality.block, pow_pos s.equality.log_block) in
    let inside : c.args.b * len + len ≤ length s.values.now =
    block_inside c.args.b (length s.equality.outer.now) len (length s.equality.inner.now) (length s.values.now) c.requires.place.1 c.block_len.ensures s.matched in
    let place : c.args.b * len ≡ c.args.b * length s.equality.inner.now = ap (λ n. c.args.b * n) c.block_len.ensures in
    let before : m.means c.before_block.result ≡ table_of m s (c.args.b * length s.equality.inner.now - 1) = c.before_block.ensures.later c.requires.place.0 in
    let first : m.means c.index-self-first.result ≡ values_of m s (c.args.b * length s.equality.inner.now) =
    lent_read m.means s.values.now (c.args.b * len) _ (omega (arith, filled)) c.index-self-first.is ∙ ap (values_of m s) place in
    c.add_exterior_product.ensures ∙ ap₂ (λ x y. add (lent m.means c.args.rows.now) (exterior x y)) before (ap m.means (sym c.index-self-first.is) ∙ first)
