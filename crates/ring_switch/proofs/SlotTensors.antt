-- The tensor, the carry and the last over a slot: outside it the equality table is zero.
use Rattle.std.proofs.Common.{◌≡◌, ℕ, ◌+◌, ◌-◌, ◌%◌, ◌^◌, ◌<◌, ◌≤◌, false, not, eqb, ◌⊎◌, length, Some, ap, ◌∙◌, ap₂, inl, inr, ⊎_elim, arith, length-drop}
use Rattle.std.proofs.lemmas.Bool.{not-true, eqb-false}
use Rattle.level.specs.Element.{Element, zeros}
use Rattle.level.specs.Laws.{Arithmetic, Laws}
use Rattle.multilinear.specs.Sums.{where_set, at_bit}
use Rattle.multilinear.proofs.Sums.{sum_same}
use Rattle.multilinear.proofs.Coordinates.{coordinate_zeros}
use Rattle.multilinear.proofs.Windows.{sum_window, where_same, where_none}
use Rattle.tensor_algebra.specs.Tensor.{exterior}
use Rattle.ring_switch.specs.Opening.{Opening, named, high, kept_rows, prefix, rest, slot_start, limit}
use Rattle.ring_switch.specs.Claims.{tensor, carry, last}
use Rattle.multilinear.specs.Columns.{starts, ends}
use Rattle.ring_switch.specs.Slots.{Slot, SteppedSlot, packed_count, slot_count, table, slot_table}
use Rattle.ring_switch.proofs.ColumnsBounds.{shift_mod, before_in, pow_multiple, pow_mod}
use Rattle.ring_switch.proofs.SlotPrefix.{high_length, prefix_selected, prefix_limit, after_within, after_inside, after_outside}

module _ {k : ℕ} where
  pub exterior_zeros : (b : Element k) (u : ℕ) → exterior (zeros k) b u ≡ zeros k
  unfolding exterior at_bit
  exterior_zeros b u = ap (λ n. at_bit n b) (coordinate_zeros k u)

  -- a table e that is e' in a window, and zero outside
  record Window (e e' : ℕ → Element k) (n s l : ℕ) : Type 0 where
    within : s + l ≤ n
    inside : (i : ℕ) → i < l → e (s + i) ≡ e' i
    outside : (w : ℕ) → w < n → (w < s) ⊎ (s + l ≤ w) → e w ≡ zeros k

  module _ {e e' : ℕ → Element k} {n s l : ℕ} (o : Window e e' n s l) (t : ℕ → Element k) (u : ℕ) where
    none : (w v : ℕ) → e w ≡ zeros k → exterior (e w) (t v) u ≡ zeros k
    none w v z = ap (λ x. exterior x (t v) u) z ∙ exterior_zeros (t v) u

    tensor_window : tensor n e t u ≡ tensor l e' (λ i. t (s + i)) u
    unfolding tensor
    tensor_window =
        sum_window n s l _ o.within (λ w h out. none w w (o.outside w h out))
        ∙ sum_same l _ _ (λ i h. ap (λ x. exterior x (t (s + i)) u) (o.inside i h))

    last_window : (r : ℕ) → s % 2 ^ r ≡ 0 → last r n e t u ≡ last r l e' (λ i. t (s + i)) u
    unfolding last
    last_window r a =
        sum_window n s l _ o.within (λ w h out. where_none (ends r w) _ (λ _. none w w (o.outside w h out)))
        ∙ sum_same l _ _ (λ i h.
        ap₂ (λ m x. where_set (eqb m (2 ^ r - 1)) (exterior x (t (s + i)) u)) (shift_mod s i (2 ^ r) a) (o.inside i h))

    carry_window : (r : ℕ) → s % 2 ^ r ≡ 0 → l % 2 ^ r ≡ 0 → carry r n e t u ≡ carry r l e' (λ i. t (s + i)) u
    unfolding carry
    carry_window r a b =
        sum_window n s l _ o.within (λ w h out. where_none (not (starts r w)) _ (λ y. outer w h out (not-true (starts r w) y)))
        ∙ sum_same l _ _ (λ i h.
        ap (λ m. where_set (not (eqb m 0)) (exterior (e (s + i - 1)) (t (s + i)) u)) (shift_mod s i (2 ^ r) a)
        ∙ where_same (not (starts r i)) _ _ (λ y. inner i h (not-true (starts r i) y)))
      where
        outer : (w : ℕ) → w < n → (w < s) ⊎ (s + l ≤ w) → starts r w ≡ false → exterior (e (w - 1)) (t w) u ≡ zeros k
        outer w h out y =
            let end : w ≡ s + l → ⊥ = λ g. eqb-false (w % 2 ^ r) 0 y (ap (λ m. m % 2 ^ r) g ∙ shift_mod s l (2 ^ r) a ∙ b) in
            let out' : (w - 1 < s) ⊎ (s + l ≤ w - 1) = ⊎_elim (λ g. inl (omega arith)) (λ g. inr (omega arith)) out in
            none (w - 1) w (o.outside (w - 1) (omega arith) out')

        inner : (i : ℕ) → i < l → starts r i ≡ false → exterior (e (s + i - 1)) (t (s + i)) u ≡ exterior (e' (i - 1)) (t (s + i)) u
        inner i h y = ap (λ x. exterior x (t (s + i)) u) (ap e (before_in r s i y) ∙ o.inside (i - 1) (omega arith))

module _ {k : ℕ} {A : Arithmetic k} (laws : Laws A) (o : Opening k) where
  slot_window : Window (table A o) (slot_table A o) (packed_count o) (slot_start A o) (slot_count A o)
  unfolding rest slot_start
  slot_window =
      let r = prefix A o in
      let s = prefix_selected laws o in
      let e = ap (λ n. 2 ^ n) (high_length o) in
      record {
        within = omega (arith, after_within laws (high o) r s, e);
        inside = after_inside laws (high o) r s;
        outside = λ w h. after_outside laws (high o) r s w (omega (arith, e));
      }

  pub slot : Slot A o
  unfolding rest
  slot =
      let w = slot_window in
      record {
        coordinates = length-drop ((prefix A o).count) (high o) ∙ ap (λ n. n - (prefix A o).count) (high_length o);
        within = w.within;
        inside = w.inside;
        outside = w.outside;
        whole_tensor = tensor_window w;
      }

  module _ (h : named o.view ≤ length o.point) where
    rows : kept_rows o ≤ length (rest A o)
    unfolding limit
    rows = omega (arith, slot.coordinates, prefix_limit laws o)

    start_aligned : slot_start A o % 2 ^ kept_rows o ≡ 0
    unfolding slot_start
    start_aligned = pow_multiple ((prefix A o).address) (length (rest A o)) (kept_rows o) rows

    pub stepped_slot : SteppedSlot A o
    stepped_slot =
        let r = kept_rows o in
        let s = slot_start A o in
        record {
          row_coordinates = rows;
          aligned = start_aligned;
          same_starts = λ i. ap (λ n. eqb n 0) (shift_mod s i (2 ^ r) start_aligned);
          same_ends = λ i. ap (λ n. eqb n (2 ^ r - 1)) (shift_mod s i (2 ^ r) start_aligned);
          before = before_in r s;
          whole_carry = λ t u. carry_window slot_window t u r start_aligned (pow_mod (length (rest A o)) r rows);
          whole_last = λ t u. last_window slot_window t u r start_aligned;
        }
