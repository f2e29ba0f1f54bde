use Rattle.std.proofs.Common.{◌≡◌, ◌+◌, ◌-◌, ◌^◌, ◌≤◌, map, ◌++◌, length, take, sym, ap, ◌∙◌, subst, subst₂, arith, length-append}
use lib.ListN.{length-map}
use Rattle.std.proofs.lemmas.List.{take_at}
use Rattle.level.specs.Element.{width}
use Rattle.std.specs.Option.{option_map}
use Rattle.equality.specs.Tables.{Tabulated}
use Rattle.ring_switch.specs.Opening.{rest}
use Rattle.reduction.specs.Layout.{most, outer_start, inner_start, batching_start}
use Rattle.reduction.specs.Stretch.{Fits, opening_at}
use Rattle.reduction.specs.Worked.{SlotFactors}
use Rattle.reduction.proofs.Cut.{held_part}
use Rattle.reduction.proofs.Fitting.{below_power, elements_fit}
use Rattle.reduction.proofs.Standing.{point_read, stands_kept}
use Rattle.reduction.proofs.Slotted.{factors_begin}
use Rattle.reduction.proofs.Working.{worked_kept}
use Rattle.reduction.proofs.Batching.{batched}
use Rattle.reduction.proofs.steps.batch.Goals as goal

pub slot_weights-requires-clause-fits : goal.slot_weights-requires-clause-fits
slot_weights-requires-clause-fits g c =
    let m = g.L.Level in
    subst (Fits m c.args.opened)
    (sym (point_read m c.args.layout.variables c.args.opened (batching_start m.log c.args.layout.variables) _ _ _ c.args.memory.now c.requires.stands.within (omega arith)
    c.point_in-point.ensures.point c.split_at_mut-held.ensures.front c.batching_start.ensures))
    c.requires.stands.fits

pub slot_weights-requires-clause-factors : goal.slot_weights-requires-clause-factors
slot_weights-requires-clause-factors g c =
    let m = g.L.Level in
    let C = c.args.layout.variables in
    let s = batching_start m.log C in
    let front = c.split_at_mut-held.ensures.front in
    let at = c.batching_start.ensures in
    let point = point_read m C c.args.opened s _ _ _ c.args.memory.now c.requires.stands.within (omega arith) c.point_in-point.ensures.point front at in
    let outer = held_part (outer_start m.log C) (most m.log C) s _ _ _ c.args.memory.now c.factors_in.ensures.outer front at (omega arith) in
    let inner = held_part (inner_start m.log C) (most m.log C) s _ _ _ c.args.memory.now c.factors_in.ensures.inner front at (omega arith) in
    let kept = length-map c.point_in-point.result.now m.means ∙ c.point_in-point.ensures.len in
    let p = opening_at m c.args.opened c.point_in-point.result.now in
    factors_begin m g.met.L.Level.ring C p c.args.memory.now _ _ (omega (arith, kept, c.requires.stands.within)) outer inner
    (subst (λ xs. SlotFactors m C (rest m.arithmetic (opening_at m c.args.opened xs)) c.args.memory.now) (sym point) c.requires.worked.factors)

pub slot_weights-requires-clause-weights : goal.slot_weights-requires-clause-weights
slot_weights-requires-clause-weights g c =
    omega (arith, elements_fit g.L.Level.log c.args.layout.variables c.args.opened.variables c.requires.stands.within, c.split_at_mut-weights.ensures.front_len, c.most.ensures)

pub returns-clause-stands : goal.returns-clause-stands
returns-clause-stands g c =
    let m = g.L.Level in
    let C = c.args.layout.variables in
    let s = batching_start m.log C in
    stands_kept m C c.args.opened s _ _ (omega arith)
    (sym (take_at c.split_at_mut-held.result.0.now _ s (c.split_at_mut-held.ensures.front_len ∙ c.batching_start.ensures)
    ∙ c.split_at_mut-held.ensures.front ∙ ap (λ i. take i c.args.memory.now) c.batching_start.ensures))
    c.requires.stands

pub returns-clause-worked : goal.returns-clause-worked
returns-clause-worked g c =
    let m = g.L.Level in
    let C = c.args.layout.variables in
    let s = batching_start m.log C in
    worked_kept m g.met.L.Level.ring C c.args.opened s _ _ c.requires.stands (omega arith)
    (sym (take_at c.split_at_mut-held.result.0.now _ s (c.split_at_mut-held.ensures.front_len ∙ c.batching_start.ensures)
    ∙ c.split_at_mut-held.ensures.front ∙ ap (λ i. take i c.args.memory.now) c.batching_start.ensures))
    (omega arith) c.requires.worked

pub returns-clause-batched : goal.returns-clause-batched
returns-clause-batched g c =
    let m = g.L.Level in
    let C = c.args.layout.variables in
    let s = batching_start m.log C in
    let front = c.split_at_mut-held.ensures.front in
    let at = c.split_at_mut-held.ensures.front_len ∙ c.batching_start.ensures in
    let b = c.copy_from_slice.new.self in
    let p = c.split_at_mut-place-2.result.1.now in
    let z = c.slot_weights.new.scratch ++ c.split_at_mut-scratch.result.1.now in
    let kept = take_at c.split_at_mut-held.result.0.now ((b ++ p) ++ (c.equality_table.new.table ++ (c.slot_weights.new.weights ++ z))) s at ∙ front ∙ ap (λ i. take i c.args.memory.now) c.batching_start.ensures in
    let copied : b ≡ c.args.batching.now = c.copy_from_slice.ensures.after in
    let wide : length (b ++ p) ≡ width m.log =
    omega (arith, length-append b p, ap length copied, c.split_at_mut-place-2.ensures.back_len, c.split_at_mut-place.ensures.front_len, c.width-width.ensures, c.requires.batching) in
    let tables : length c.equality_table.new.table ≡ width m.log = c.equality_table.auto.table ∙ c.split_at_mut-table.ensures.front_len ∙ c.width-width.ensures in
    let weights : length c.slot_weights.new.weights ≡ most m.log C = c.slot_weights.auto.weights ∙ c.split_at_mut-weights.ensures.front_len ∙ c.most.ensures in
    let point = point_read m C c.args.opened s _ _ _ c.args.memory.now c.requires.stands.within (omega arith) c.point_in-point.ensures.point front c.batching_start.ensures in
    let tabulated =
    subst₂ (λ x ys. Tabulated m.means m.arithmetic x (map m.means ys) c.equality_table.new.table) c.one.ensures (sym copied) c.equality_table.ensures in
    batched m g.met.L.Level.ring C c.args.opened (option_map m.means c.args.alpha) c.args.memory.now c.split_at_mut-held.result.0.now b p c.equality_table.new.table c.slot_weights.new.weights z
    c.requires.stands kept at (ap length copied ∙ c.requires.batching) wide tables weights c.point_in-point.result.now point tabulated c.slot_weights.ensures

pub split_at_mut-place-requires-2 : goal.split_at_mut-place-requires-2
split_at_mut-place-requires-2 g c = omega (arith, below_power g.L.Level.log, c.requires.batching, c.split_at_mut-place.ensures.front_len, c.width-width.ensures)
