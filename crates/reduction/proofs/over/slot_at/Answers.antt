use Rattle.std.proofs.Common.{◌≡◌, ◌-◌, ◌^◌, map, length, sym, ap, ◌∙◌, subst}
use lib.ListN.{length-map}
use Rattle.multilinear.specs.Lent.{lent}
use Rattle.folding.specs.Openings.{SlotOpens}
use Rattle.opening.specs.Openings.{opening_of}
use Rattle.ring_switch.specs.Opening.{rest}
use Rattle.reduction.specs.Worked.{BeginFactors}
use Rattle.reduction.proofs.Slotted.{made_at, slot_within, slot_opens}
use Rattle.reduction.proofs.over.slot_at.Goals as goal

pub slot_of-requires-clause-within : goal.slot_of-requires-clause-within
slot_of-requires-clause-within g c =
    let m = g.L.Level in
    let s = c.opening_at-reduction in
    let e = made_at m s.result c.args.opened _ s.ensures.point s.ensures.view in
    let begins = subst (λ o. BeginFactors m.means m.arithmetic (rest m.arithmetic o) c.args.outers.now c.args.inners.now) (sym e) c.requires.factors in
    let n = length-map s.result.point.now m.means ∙ ap length s.ensures.point ∙ c.requires.fits.len in
    slot_within m g.met.L.Level.ring (opening_of m s.result) _ _ _ _ _ c.rest-variables.ensures.rest begins c.outer_entries.ensures c.inner_entries.ensures _ _ c.slot_start.ensures.start
    (c.requires.packed ∙ ap (λ i. 2 ^ (i - m.log)) (sym n))

pub returns : goal.returns
returns g c =
    let m = g.L.Level in
    let s = c.opening_at-reduction in
    let e = made_at m s.result c.args.opened _ s.ensures.point s.ensures.view in
    let begins = subst (λ o. BeginFactors m.means m.arithmetic (rest m.arithmetic o) c.args.outers.now c.args.inners.now) (sym e) c.requires.factors in
    subst (λ o. SlotOpens m c.slot_of.result o (lent m.means c.args.packed.now)) e
    (slot_opens m g.met.L.Level.ring (opening_of m s.result) _ _ _ _ _ c.rest-variables.ensures.rest begins c.outer_entries.ensures c.inner_entries.ensures c.args.packed.now _ c.slot_of.result
    c.slot_start.ensures.start c.slot_of.ensures.outer c.slot_of.ensures.inner c.slot_of.ensures.values)
