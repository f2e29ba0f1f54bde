-- Weights from the settled ones, and those of an opening's slot.
use Rattle.std.proofs.Common.{◌≡◌, ℕ, ◌+◌, ◌-◌, ◌*◌, ◌%◌, ◌^◌, ◌<◌, ◌≤◌, not, length, Some, None, Option, sym, ap, ◌∙◌, ap₂, arith, length-append, take-append-drop, pow-add}
use Rattle.level.specs.declared.level.Level.{Ghosts}
use Rattle.level.specs.Element.{Element, plus}
use Rattle.level.specs.Laws.{Arithmetic, Laws}
use Rattle.multilinear.specs.Columns.{starts, ends}
use Rattle.multilinear.specs.Equality.{outer, inner, inner_count}
use Rattle.multilinear.specs.Sums.{where_set}
use Rattle.tensor_algebra.specs.Tensor.{subset_sum}
use Rattle.equality.specs.Tables.{Factors}
use Rattle.equality.specs.declared.factored.FactoredEquality.{FactoredEquality}
use Rattle.equality.proofs.Factoring.{entries_are}
use Rattle.ring_switch.specs.Opening.{Opening, named, kept_rows, rest}
use Rattle.ring_switch.specs.Slots.{slot_count}
use Rattle.ring_switch.specs.Batching.{settled, weight}
use Rattle.ring_switch.proofs.ColumnsBounds.{pow_mod}
use Rattle.ring_switch.proofs.SlotTensors.{stepped_slot}
use Rattle.opening.specs.Openings.{opening_of}
use Rattle.opening.specs.Batches.{rows_of, weights_of}
use Rattle.opening.specs.declared.batch.BitRingSwitchBatch.{BitRingSwitchBatch}
use Rattle.weights.specs.Stepped.{stepped}
use Rattle.weights.specs.Weighed.{weighed}

module _ {k : ℕ} (A : Arithmetic k) (f e : ℕ → Element k) (r : ℕ) where
  -- without a challenge a weight is settled, and under one settled weights are combined
  pub weighed_plain : (α : Option (Element k)) (i : ℕ) (x : Element k) → α ≡ None → x ≡ settled f e i → x ≡ weight A f e r α i
  unfolding weight
  weighed_plain α i x none own = own ∙ ap (λ o. weight A f e r o i) (sym none)

  pub weighed_stepped : (α : Option (Element k)) (a : Element k) (old : ℕ → Element k) (n i : ℕ) (x : Element k) → α ≡ Some a → i < n
      → ((j : ℕ) → j < n → old j ≡ settled f e j) → x ≡ stepped A r a old i → x ≡ weight A f e r α i
  unfolding weight stepped
  weighed_stepped α a old n i x some within own made =
      made
      ∙ ap₂ (λ here before. plus (plus here (where_set (not (starts r i)) (A.times a before))) (where_set (ends r i) (A.times (A.times a a) here)))
      (own i within) (own (i - 1) (omega arith))
      ∙ ap (λ o. weight A f e r o i) (sym some)

-- a weight reads its own entry and the one before
weight_same : {k : ℕ} (A : Arithmetic k) (f e d : ℕ → Element k) (r : ℕ) (α : Option (Element k)) (i : ℕ) → e i ≡ d i → e (i - 1) ≡ d (i - 1)
    → weight A f e r α i ≡ weight A f d r α i
unfolding weight settled
weight_same A f e d r None i own before = ap (subset_sum f) own
weight_same A f e d r (Some α) i own before =
    ap₂ (λ x y. plus (plus (subset_sum f x) (where_set (not (starts r i)) (A.times α (subset_sum f y)))) (where_set (ends r i) (A.times (A.times α α) (subset_sum f x))))
    own before

module _ {X : Type 0} (L : Ghosts X) (equality : FactoredEquality X) where
  -- Where the factors are those of an opening's slot, the table has an entry for each of the slot's elements, in whole columns,
  module _ (o : Opening L.log) (factors : Factors L.means L.arithmetic L.arithmetic.unit (rest L.arithmetic o) equality.outer.now equality.inner.now) where
    pub slot_size : length equality.outer.now * length equality.inner.now ≡ slot_count L.arithmetic o
    slot_size =
        let p = rest L.arithmetic o in
        let parts : length p ≡ length (outer p) + length (inner p) =
        sym (ap length (take-append-drop (length p - inner_count (length p)) p)) ∙ length-append (outer p) (inner p) in
        ap₂ (λ a b. a * b) factors.outer_table.size factors.inner_table.size ∙ sym (ap (λ n. 2 ^ n) parts ∙ pow-add 2 (length (outer p)) (length (inner p)))

    pub slot_whole : Laws L.arithmetic → named o.view ≤ length o.point → length equality.outer.now * length equality.inner.now % 2 ^ kept_rows o ≡ 0
    slot_whole laws within =
        ap (λ n. n % 2 ^ kept_rows o) slot_size
        ∙ pow_mod (length (rest L.arithmetic o)) (kept_rows o) (stepped_slot laws o within).row_coordinates

  -- and its weights are the slot's.
  pub slot_weighed : Laws L.arithmetic → (b : BitRingSwitchBatch X L)
      → Factors L.means L.arithmetic L.arithmetic.unit (rest L.arithmetic (opening_of L b.reduction)) equality.outer.now equality.inner.now
      → (i : ℕ) → i < slot_count L.arithmetic (opening_of L b.reduction) → weighed L b equality i ≡ weights_of L b i
  slot_weighed laws b factors i h =
      let o = opening_of L b.reduction in
      let same = entries_are L.means laws L.arithmetic.unit (rest L.arithmetic o) equality.outer.now equality.inner.now factors in
      weight_same L.arithmetic (rows_of L b) _ _ (kept_rows o) _ i (same i h) (same (i - 1) (omega arith))
