use Rattle.std.proofs.Common.{◌<◌, [], ◌∷◌, ◌++◌, length, refl, ap, ◌∙◌, sym, append_assoc, append-nil, arith, length-set, pow_pos}
use Rattle.std.specs.Iterator.Adapters.{rev_source}
use Rattle.std.specs.Slice.Iter.{iter_rest}
use Rattle.multilinear.proofs.Lent.{lent_written}
use Rattle.equality.proofs.Tabulating.{tabulating_begins, tabulating_more, tabulating_ends, room_for_more}
use Rattle.equality.proofs.table.equality_table.Goals as goal

pub loop-x-init : goal.loop-x-init
loop-x-init g c =
    let all = ap (λ s. iter_rest (rev_source s)) c.into_iter-x-iterator.ensures.into_iter_gives ∙ ap iter_rest c.rev-x-items.ensures.source ∙ c.iter.ensures.rest in
    ([], sym all ∙ sym (append-nil _), tabulating_begins g.met.L.Level.ring _ _ refl)

pub widen-requires : goal.widen-requires
widen-requires g c =
    let h = c.loop-x.invariant in
    room_for_more g.L.Level.means _ _ c.args.point.now _ h.0 c.in-Some.x.now _ _ _ (h.1 ∙ ap (λ r. r ++ h.0) c.in-Some.ensures.steps)
    (c.loop-x.auto.table ∙ length-set _ _ _ ∙ c.requires) h.2

pub overflow_mul-half : goal.overflow_mul-half
overflow_mul-half g c =
    let h = c.loop-x.invariant in
    omega (arith, room_for_more g.L.Level.means _ _ c.args.point.now _ h.0 c.in-Some.x.now _ _ _ (h.1 ∙ ap (λ r. r ++ h.0) c.in-Some.ensures.steps) c.requires h.2)

pub loop-x-preserved : goal.loop-x-preserved
loop-x-preserved g c =
    let h = c.loop-x.invariant in
    let x = c.in-Some.x.now in (
      x ∷ h.0,
      h.1 ∙ ap (λ r. r ++ h.0) c.in-Some.ensures.steps ∙ append_assoc _ (x ∷ []) h.0,
      tabulating_more g.met.L.Level.ring _ _ _ _ _ _ c.widen.ensures h.2,
    )

pub returns : goal.returns
returns g c =
    let h = c.loop-x.invariant in
    let m = g.L.Level in
    let first : 0 < length c.args.table.now = omega (arith, c.requires, pow_pos (length c.args.point.now)) in
    tabulating_ends m.means _ _ c.args.point.now _ h.0 c.loop-x.table _ (m.means c.args.start) h.1 c.in-None.ensures.steps.0
    (c.loop-x.auto.table ∙ length-set _ _ _ ∙ c.requires) (lent_written m.means c.args.table.now 0 c.args.start first) h.2
