use Rattle.std.proofs.Common.{◌≡◌, ℕ, ◌^◌, length, sym, ap, ◌∙◌, arith, rules}
use lib.ListN.{length-map}
use Rattle.level.specs.Element.{Element}
use Rattle.multilinear.specs.Sums.{sum}
use Rattle.multilinear.specs.Cells.{cell, packed}
use Rattle.ring_switch.specs.Opening.{variables, rest}
use Rattle.ring_switch.specs.Slots.{in_slot}
use Rattle.opening.specs.Openings.{opening_of}
use Rattle.opening.specs.Batches.{rows_of, weights_of}
use Rattle.std.specs.Option.{option_map}
use Rattle.plain.proofs.InitialSums.{slot_initial}
use Rattle.plain.proofs.Summing.{cube_sum, slot_room}
use Rattle.plain.proofs.batching.slot_sum.Goals as goal

pub sum_of-requires : goal.sum_of-requires
sum_of-requires g c i h =
    let m = g.L.Level in
    let r = c.args.batch.now.reduction in
    let o = opening_of m r in
    let p = length-map r.point.now m.means in
    let l : length c.rest.result.now ≡ length (rest m.arithmetic o) = sym (length-map c.rest.result.now m.means) ∙ ap length c.rest.ensures.rest in
    slot_room c.slot_start-start.result i (variables o) m.log (length r.point.now) (length c.rest.result.now) (rw l c.slot_start-start.ensures.within) h
    (omega (arith, p, r.absorbs)) r.few (omega (arith, c.rest.ensures.len, p, r.few))

pub returns-clause-weighted : goal.returns-clause-weighted
returns-clause-weighted g c =
    let m = g.L.Level in
    let A = m.arithmetic in
    let b = c.args.batch.now in
    let o = opening_of m b.reduction in
    let n = length c.rest.result.now in
    let l : n ≡ length (rest A o) = sym (length-map c.rest.result.now m.means) ∙ ap length c.rest.ensures.rest in
    let f : ℕ → Element m.log = λ i. A.times (in_slot A o (packed m.log (cell c.args.bits.now)) i) (weights_of m b i) in
    cube_sum f n _ (omega (arith, c.rest.ensures.len, b.reduction.few, length-map b.reduction.point.now m.means)) (c.sum_of.ensures f (λ i x h e. search rules))
    ∙ ap (λ j. sum (2 ^ j) f) l

pub returns-clause-initial : goal.returns-clause-initial
returns-clause-initial g c =
    let m = g.L.Level in
    let b = c.args.batch.now in
    let o = opening_of m b.reduction in
    returns-clause-weighted g c
    ∙ slot_initial g.met.L.Level.ring (rows_of m b) (cell c.args.bits.now) o (option_map m.means b.alpha)
    (omega (arith, b.reduction.rows, length-map b.reduction.point.now m.means))
