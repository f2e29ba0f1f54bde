use Rattle.std.proofs.Common.{zero-add, ◌++◌, drop, ◌≡◌, ◌+◌, ◌-◌, ◌^◌, ◌<◌, ◌≤◌, map, length, take, refl, sym, ap, ◌∙◌, subst, arith}
use mathlib.Core.Path.{fun_ext}
use lib.ListN.{length-map}
use Rattle.level.specs.Element.{width}
use Rattle.multilinear.specs.Lent.{lent}
use Rattle.multilinear.proofs.Places.{of_part}
use Rattle.ring_switch.specs.Opening.{rest}
use Rattle.ring_switch.specs.Slots.{table}
use Rattle.folding.proofs.Openings.{tensor_same}
use Rattle.reduction.specs.Layout.{most, outer_start, tensor_start}
use Rattle.reduction.specs.Stretch.{Fits, opening_at}
use Rattle.reduction.specs.Worked.{SlotFactors, tensor_at}
use Rattle.reduction.proofs.Cut.{third_whole}
use Rattle.reduction.proofs.Fitting.{elements_fit}
use Rattle.reduction.proofs.Standing.{point_read, elements_read}
use Rattle.reduction.proofs.Slotted.{factors_stand}
use Rattle.reduction.proofs.steps.work_tensor.Goals as goal

pub packed_in-packed-requires-clause-room : goal.packed_in-packed-requires-clause-room
packed_in-packed-requires-clause-room g c =
    omega (arith, elements_fit g.L.Level.log c.args.layout.variables c.args.opened.variables c.requires.stands.within, c.split_at_mut-held.ensures.front_len, c.outer_start.ensures)

pub slot_factors-requires-clause-outers : goal.slot_factors-requires-clause-outers
slot_factors-requires-clause-outers g c =
    omega (arith, elements_fit g.L.Level.log c.args.layout.variables c.args.opened.variables c.requires.stands.within, c.split_at_mut-outers.ensures.front_len, c.most-most.ensures)

pub slot_factors-requires-clause-inners : goal.slot_factors-requires-clause-inners
slot_factors-requires-clause-inners g c =
    omega (arith, elements_fit g.L.Level.log c.args.layout.variables c.args.opened.variables c.requires.stands.within, c.split_at_mut-inners.ensures.front_len, c.most-most.ensures)

pub slot_factors-requires-clause-fits : goal.slot_factors-requires-clause-fits
slot_factors-requires-clause-fits g c =
    let m = g.L.Level in
    subst (Fits m c.args.opened)
    (sym (point_read m c.args.layout.variables c.args.opened (outer_start m.log c.args.layout.variables) _ _ _ c.args.memory.now c.requires.stands.within (omega arith)
    c.point_in-point.ensures.point c.split_at_mut-held.ensures.front c.outer_start.ensures))
    c.requires.stands.fits

pub fold_tensor-requires-clause-fits : goal.fold_tensor-requires-clause-fits
fold_tensor-requires-clause-fits g c =
    let m = g.L.Level in
    subst (Fits m c.args.opened)
    (sym (point_read m c.args.layout.variables c.args.opened (outer_start m.log c.args.layout.variables) _ _ _ c.args.memory.now c.requires.stands.within (omega arith)
    c.point_in-point.ensures.point c.split_at_mut-held.ensures.front c.outer_start.ensures))
    c.requires.stands.fits

pub returns-clause-factors : goal.returns-clause-factors
returns-clause-factors g c =
    let m = g.L.Level in
    let C = c.args.layout.variables in
    let point = point_read m C c.args.opened (outer_start m.log C) _ _ _ c.args.memory.now c.requires.stands.within (omega arith) c.point_in-point.ensures.point c.split_at_mut-held.ensures.front c.outer_start.ensures in
    let kept = length-map c.point_in-point.result.now m.means ∙ c.point_in-point.ensures.len in
    let outers = c.slot_factors.auto.outers ∙ c.split_at_mut-outers.ensures.front_len ∙ c.most-most.ensures in
    let inners = c.slot_factors.auto.inners ∙ c.split_at_mut-inners.ensures.front_len ∙ c.most-most.ensures in
    let held = c.split_at_mut-held.result.0.now in
    let behind = c.fold_tensor.new.rows ++ (c.fold_tensor.new.scratch ++ drop c.scratch_len.result c.split_at_mut-rows.result.1.now) in
    subst (λ xs. SlotFactors m C (rest m.arithmetic (opening_at m c.args.opened xs)) (held ++ (c.slot_factors.new.outers ++ (c.slot_factors.new.inners ++ behind)))) point
    (factors_stand m g.met.L.Level.ring C (opening_at m c.args.opened c.point_in-point.result.now) held c.slot_factors.new.outers c.slot_factors.new.inners behind (omega (arith, kept, c.requires.stands.within))
    (c.split_at_mut-held.ensures.front_len ∙ c.outer_start.ensures) outers inners c.slot_factors.ensures)

pub returns-clause-tensor : goal.returns-clause-tensor
returns-clause-tensor g c =
    let m = g.L.Level in
    let C = c.args.layout.variables in
    let s = outer_start m.log C in
    let o = c.args.opened in
    let point = point_read m C o s _ _ _ c.args.memory.now c.requires.stands.within (omega arith) c.point_in-point.ensures.point c.split_at_mut-held.ensures.front c.outer_start.ensures in
    let packed = elements_read m C o s _ _ _ c.args.memory.now c.requires.stands.within (omega arith) c.packed_in-packed.ensures.packed c.split_at_mut-held.ensures.front c.outer_start.ensures in
    let kept = length-map c.point_in-point.result.now m.means ∙ c.point_in-point.ensures.len in
    let outers = c.slot_factors.auto.outers ∙ c.split_at_mut-outers.ensures.front_len ∙ c.most-most.ensures in
    let inners = c.slot_factors.auto.inners ∙ c.split_at_mut-inners.ensures.front_len ∙ c.most-most.ensures in
    let rows = c.fold_tensor.auto.rows ∙ c.split_at_mut-rows.ensures.front_len ∙ c.width.ensures in
    let p = opening_at m o c.point_in-point.result.now in
    ap (lent m.means) (third_whole s (most m.log C) (most m.log C) (width m.log) _ _ _ c.fold_tensor.new.rows _ (c.split_at_mut-held.ensures.front_len ∙ c.outer_start.ensures) outers inners rows)
    ∙ c.fold_tensor.ensures
    ∙ fun_ext (λ u. tensor_same _ (table m.arithmetic p) (table m.arithmetic p) (lent m.means c.packed_in-packed.result.now) (lent m.means c.args.memory.now) (λ i h. refl)
    (λ i h. ap (λ xs. lent m.means xs i) packed ∙ of_part m.means 0 (2 ^ (o.variables - m.log)) c.args.memory.now i (omega (arith, h, ap (λ n. 2 ^ (n - m.log)) kept)) ∙ ap (lent m.means c.args.memory.now) (zero-add i)) u)
    ∙ ap (λ xs. tensor_at m.arithmetic (opening_at m o xs) (lent m.means c.args.memory.now)) point
