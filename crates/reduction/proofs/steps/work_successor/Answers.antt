use Rattle.std.proofs.Common.{zero-add, ◌≡◌, ◌+◌, ◌-◌, ◌^◌, ◌<◌, ◌≤◌, map, length, take, refl, sym, ap, ◌∙◌, subst, arith}
use mathlib.Core.Path.{fun_ext}
use lib.ListN.{length-map}
use Rattle.level.specs.Element.{width}
use Rattle.multilinear.specs.Lent.{lent}
use Rattle.multilinear.proofs.Places.{of_part}
use Rattle.ring_switch.specs.Opening.{kept_rows, rest}
use Rattle.ring_switch.specs.Slots.{table}
use Rattle.folding.proofs.Openings.{carry_same, last_same}
use Rattle.reduction.specs.Layout.{most, outer_start, inner_start, carry_start}
use Rattle.reduction.specs.Stretch.{Fits, opening_at}
use Rattle.reduction.specs.Worked.{SlotFactors, carry_at, last_at}
use Rattle.reduction.proofs.Cut.{held_part, whole, second_whole}
use Rattle.reduction.proofs.Fitting.{elements_fit}
use Rattle.reduction.proofs.Standing.{point_read, elements_read}
use Rattle.reduction.proofs.Slotted.{factors_begin}
use Rattle.reduction.proofs.steps.work_successor.Goals as goal

pub packed_in-packed-requires-clause-room : goal.packed_in-packed-requires-clause-room
packed_in-packed-requires-clause-room g c =
    omega (arith, elements_fit g.L.Level.log c.args.layout.variables c.args.opened.variables c.requires.stands.within, c.split_at_mut-held.ensures.front_len, c.carry_start.ensures)

pub fold_carry-requires-clause-fits : goal.fold_carry-requires-clause-fits
fold_carry-requires-clause-fits g c =
    let m = g.L.Level in
    subst (Fits m c.args.opened)
    (sym (point_read m c.args.layout.variables c.args.opened (carry_start m.log c.args.layout.variables) _ _ _ c.args.memory.now c.requires.stands.within (omega arith)
    c.point_in-point.ensures.point c.split_at_mut-held.ensures.front c.carry_start.ensures))
    c.requires.stands.fits

pub fold_carry-requires-clause-factors : goal.fold_carry-requires-clause-factors
fold_carry-requires-clause-factors g c =
    let m = g.L.Level in
    let C = c.args.layout.variables in
    let s = carry_start m.log C in
    let front = c.split_at_mut-held.ensures.front in
    let at = c.carry_start.ensures in
    let point = point_read m C c.args.opened s _ _ _ c.args.memory.now c.requires.stands.within (omega arith) c.point_in-point.ensures.point front at in
    let outer = held_part (outer_start m.log C) (most m.log C) s _ _ _ c.args.memory.now c.factors_in.ensures.outer front at (omega arith) in
    let inner = held_part (inner_start m.log C) (most m.log C) s _ _ _ c.args.memory.now c.factors_in.ensures.inner front at (omega arith) in
    let kept = length-map c.point_in-point.result.now m.means ∙ c.point_in-point.ensures.len in
    let p = opening_at m c.args.opened c.point_in-point.result.now in
    factors_begin m g.met.L.Level.ring C p c.args.memory.now _ _ (omega (arith, kept, c.requires.stands.within)) outer inner
    (subst (λ xs. SlotFactors m C (rest m.arithmetic (opening_at m c.args.opened xs)) c.args.memory.now) (sym point) c.requires.factors)

pub fold_carry-requires-clause-shifted : goal.fold_carry-requires-clause-shifted
fold_carry-requires-clause-shifted g c =
    omega (arith, elements_fit g.L.Level.log c.args.layout.variables c.args.opened.variables c.requires.stands.within, c.split_at_mut-shifted.ensures.front_len, c.most.ensures)

pub fold_last-requires-clause-fits : goal.fold_last-requires-clause-fits
fold_last-requires-clause-fits g c =
    let m = g.L.Level in
    subst (Fits m c.args.opened)
    (sym (point_read m c.args.layout.variables c.args.opened (carry_start m.log c.args.layout.variables) _ _ _ c.args.memory.now c.requires.stands.within (omega arith)
    c.point_in-point.ensures.point c.split_at_mut-held.ensures.front c.carry_start.ensures))
    c.requires.stands.fits

pub fold_last-requires-clause-factors : goal.fold_last-requires-clause-factors
fold_last-requires-clause-factors g c =
    let m = g.L.Level in
    let C = c.args.layout.variables in
    let s = carry_start m.log C in
    let front = c.split_at_mut-held.ensures.front in
    let at = c.carry_start.ensures in
    let point = point_read m C c.args.opened s _ _ _ c.args.memory.now c.requires.stands.within (omega arith) c.point_in-point.ensures.point front at in
    let outer = held_part (outer_start m.log C) (most m.log C) s _ _ _ c.args.memory.now c.factors_in.ensures.outer front at (omega arith) in
    let inner = held_part (inner_start m.log C) (most m.log C) s _ _ _ c.args.memory.now c.factors_in.ensures.inner front at (omega arith) in
    let kept = length-map c.point_in-point.result.now m.means ∙ c.point_in-point.ensures.len in
    let p = opening_at m c.args.opened c.point_in-point.result.now in
    factors_begin m g.met.L.Level.ring C p c.args.memory.now _ _ (omega (arith, kept, c.requires.stands.within)) outer inner
    (subst (λ xs. SlotFactors m C (rest m.arithmetic (opening_at m c.args.opened xs)) c.args.memory.now) (sym point) c.requires.factors)

pub returns-clause-carry : goal.returns-clause-carry
returns-clause-carry g c =
    let m = g.L.Level in
    let C = c.args.layout.variables in
    let s = carry_start m.log C in
    let o = c.args.opened in
    let point = point_read m C o s _ _ _ c.args.memory.now c.requires.stands.within (omega arith) c.point_in-point.ensures.point c.split_at_mut-held.ensures.front c.carry_start.ensures in
    let packed = elements_read m C o s _ _ _ c.args.memory.now c.requires.stands.within (omega arith) c.packed_in-packed.ensures.packed c.split_at_mut-held.ensures.front c.carry_start.ensures in
    let kept = length-map c.point_in-point.result.now m.means ∙ c.point_in-point.ensures.len in
    let rows = c.fold_carry.auto.rows ∙ c.split_at_mut-carry.ensures.front_len ∙ c.width-width.ensures in
    let p = opening_at m o c.point_in-point.result.now in
    ap (lent m.means) (whole s (width m.log) _ c.fold_carry.new.rows _ (c.split_at_mut-held.ensures.front_len ∙ c.carry_start.ensures) rows)
    ∙ c.fold_carry.ensures
    ∙ fun_ext (λ u. carry_same _ (table m.arithmetic p) (table m.arithmetic p) (lent m.means c.packed_in-packed.result.now) (lent m.means c.args.memory.now) (λ i h. refl)
    (λ i h. ap (λ xs. lent m.means xs i) packed ∙ of_part m.means 0 (2 ^ (o.variables - m.log)) c.args.memory.now i (omega (arith, h, ap (λ n. 2 ^ (n - m.log)) kept))
    ∙ ap (lent m.means c.args.memory.now) (zero-add i)) (kept_rows p) u)
    ∙ ap (λ xs. carry_at m.arithmetic (opening_at m o xs) (lent m.means c.args.memory.now)) point

pub returns-clause-last : goal.returns-clause-last
returns-clause-last g c =
    let m = g.L.Level in
    let C = c.args.layout.variables in
    let s = carry_start m.log C in
    let o = c.args.opened in
    let point = point_read m C o s _ _ _ c.args.memory.now c.requires.stands.within (omega arith) c.point_in-point.ensures.point c.split_at_mut-held.ensures.front c.carry_start.ensures in
    let packed = elements_read m C o s _ _ _ c.args.memory.now c.requires.stands.within (omega arith) c.packed_in-packed.ensures.packed c.split_at_mut-held.ensures.front c.carry_start.ensures in
    let kept = length-map c.point_in-point.result.now m.means ∙ c.point_in-point.ensures.len in
    let carries = c.fold_carry.auto.rows ∙ c.split_at_mut-carry.ensures.front_len ∙ c.width-width.ensures in
    let rows = c.fold_last.auto.rows ∙ c.split_at_mut-last.ensures.front_len ∙ c.width-width.ensures in
    let p = opening_at m o c.point_in-point.result.now in
    ap (lent m.means) (second_whole s (width m.log) (width m.log) _ c.fold_carry.new.rows c.fold_last.new.rows _ (c.split_at_mut-held.ensures.front_len ∙ c.carry_start.ensures) carries rows)
    ∙ c.fold_last.ensures
    ∙ fun_ext (λ u. last_same _ (table m.arithmetic p) (table m.arithmetic p) (lent m.means c.packed_in-packed.result.now) (lent m.means c.args.memory.now) (λ i h. refl)
    (λ i h. ap (λ xs. lent m.means xs i) packed ∙ of_part m.means 0 (2 ^ (o.variables - m.log)) c.args.memory.now i (omega (arith, h, ap (λ n. 2 ^ (n - m.log)) kept))
    ∙ ap (lent m.means c.args.memory.now) (zero-add i)) (kept_rows p) u)
    ∙ ap (λ xs. last_at m.arithmetic (opening_at m o xs) (lent m.means c.args.memory.now)) point
