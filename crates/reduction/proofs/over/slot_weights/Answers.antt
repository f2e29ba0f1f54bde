use Rattle.std.proofs.Common.{◌≡◌, ℕ, ◌-◌, ◌*◌, ◌%◌, ◌^◌, ◌<◌, ◌≤◌, List, map, ◌++◌, length, take, sym, ap, ◌∙◌, subst, subst₂, arith}
use lib.ListN.{length-map}
use Rattle.std.specs.Option.{option_map}
use Rattle.level.specs.Element.{Element}
use Rattle.multilinear.specs.Lent.{lent}
use Rattle.multilinear.proofs.Lent.{lent_front}
use Rattle.equality.specs.Tables.{Factors}
use Rattle.ring_switch.specs.Opening.{named, kept_rows, rest}
use Rattle.ring_switch.specs.Slots.{slot_count, slot_table}
use Rattle.ring_switch.specs.Batching.{weight}
use Rattle.opening.specs.Openings.{opening_of}
use Rattle.weights.proofs.Weighing.{slot_size, slot_whole, slot_weighed}
use Rattle.reduction.specs.Stretch.{opening_at}
use Rattle.reduction.specs.Worked.{BeginFactors}
use Rattle.reduction.proofs.Slotted.{made_at, slot_factors}
use Rattle.reduction.proofs.over.slot_weights.Goals as goal

pub weights_over-requires-clause-table : goal.weights_over-requires-clause-table
weights_over-requires-clause-table g c =
    let m = g.L.Level in
    let laws = g.met.L.Level.ring in
    let b = c.batch_at-batch in
    let e = made_at m b.result.reduction c.args.opened _ b.ensures.point b.ensures.view in
    let begins = subst (λ o. BeginFactors m.means m.arithmetic (rest m.arithmetic o) c.args.outers.now c.args.inners.now) (sym e) c.requires.factors in
    let o = opening_of m b.result.reduction in
    let f = slot_factors m laws o _ _ _ _ _ c.rest-variables.ensures.rest begins c.outer_entries.ensures c.inner_entries.ensures in
    let factors = subst₂ (λ xs ys. Factors m.means m.arithmetic m.arithmetic.unit (rest m.arithmetic o) xs ys) (sym c.new-equality.ensures.outer) (sym c.new-equality.ensures.inner) f in
    let size = c.split_at_mut-weights.ensures.front_len ∙ c.slot_entries.ensures.count in
    size ∙ sym (slot_size m c.new-equality.result o factors)

pub weights_over-requires-clause-whole : goal.weights_over-requires-clause-whole
weights_over-requires-clause-whole g c =
    let m = g.L.Level in
    let laws = g.met.L.Level.ring in
    let b = c.batch_at-batch in
    let e = made_at m b.result.reduction c.args.opened _ b.ensures.point b.ensures.view in
    let begins = subst (λ o. BeginFactors m.means m.arithmetic (rest m.arithmetic o) c.args.outers.now c.args.inners.now) (sym e) c.requires.factors in
    let o = opening_of m b.result.reduction in
    let f = slot_factors m laws o _ _ _ _ _ c.rest-variables.ensures.rest begins c.outer_entries.ensures c.inner_entries.ensures in
    let factors = subst₂ (λ xs ys. Factors m.means m.arithmetic m.arithmetic.unit (rest m.arithmetic o) xs ys) (sym c.new-equality.ensures.outer) (sym c.new-equality.ensures.inner) f in
    let size = c.split_at_mut-weights.ensures.front_len ∙ c.slot_entries.ensures.count in
    let within : named o.view ≤ length o.point = omega (arith, b.result.reduction.rows, length-map b.result.reduction.point.now m.means) in
    ap (λ n. n % 2 ^ kept_rows o) (size ∙ sym (slot_size m c.new-equality.result o factors)) ∙ slot_whole m c.new-equality.result o factors laws within

pub returns : goal.returns
returns g c = λ i h.
    let m = g.L.Level in
    let laws = g.met.L.Level.ring in
    let b = c.batch_at-batch in
    let e = made_at m b.result.reduction c.args.opened _ b.ensures.point b.ensures.view in
    let begins = subst (λ o. BeginFactors m.means m.arithmetic (rest m.arithmetic o) c.args.outers.now c.args.inners.now) (sym e) c.requires.factors in
    let o = opening_of m b.result.reduction in
    let f = slot_factors m laws o _ _ _ _ _ c.rest-variables.ensures.rest begins c.outer_entries.ensures c.inner_entries.ensures in
    let factors = subst₂ (λ xs ys. Factors m.means m.arithmetic m.arithmetic.unit (rest m.arithmetic o) xs ys) (sym c.new-equality.ensures.outer) (sym c.new-equality.ensures.inner) f in
    let size = c.split_at_mut-weights.ensures.front_len ∙ c.slot_entries.ensures.count in
    let count : i < slot_count m.arithmetic o = subst (λ p. i < slot_count m.arithmetic p) (sym e) h in
    lent_front m.means c.weights_over.new.table _ i (omega (arith, count, c.weights_over.auto.table, size))
    ∙ c.weights_over.ensures.weights i (omega (arith, count, size))
    ∙ slot_weighed m c.new-equality.result laws b.result factors i count
    ∙ ap (λ p. weight m.arithmetic (lent m.means b.result.eq_batch.elements.now) (slot_table m.arithmetic p) (kept_rows p) (option_map m.means b.result.alpha) i) e
    ∙ (let p = opening_at m c.args.opened c.args.point.now in
    ap (λ xs. weight m.arithmetic (lent m.means xs) (slot_table m.arithmetic p) (kept_rows p) (option_map m.means b.result.alpha) i) b.ensures.table
    ∙ ap (λ a. weight m.arithmetic (lent m.means c.args.table.now) (slot_table m.arithmetic p) (kept_rows p) (option_map m.means a) i) b.ensures.alpha)
