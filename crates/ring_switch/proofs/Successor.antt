-- The successor claim.
use Rattle.std.proofs.Common.{◌≡◌, ℕ, ◌+◌, ◌-◌, ◌*◌, ◌^◌, ◌<◌, ◌≤◌, true, false, not, eqb, ltb, length, sym, ap, ◌∙◌, ap₂, ⊎_elim, arith, pow_pos}
use lib.Arith.{mul_pred}
use lib.Pow.{ones_lt}
use Rattle.std.proofs.lemmas.Bool.{not-true, eqb-false, ltb-true, ltb-false, cases_Bool}
use Rattle.level.specs.Element.{Element, width, plus}
use Rattle.level.specs.Laws.{Arithmetic, Laws}
use Rattle.level.proofs.Elements.{plus_assoc}
use Rattle.multilinear.specs.Sums.{sum, where_set, at_bit}
use Rattle.multilinear.specs.Equality.{equality, multilinear}
use Rattle.multilinear.specs.Cells.{standing, one_row_on}
use Rattle.multilinear.proofs.Sums.{sum_same, sum_plus, sum_rows, at_bit_plus, times_sum, times_at_bit, times_where}
use Rattle.multilinear.proofs.Windows.{sum_single, where_same, where_and, where_not_and, at_bit_where}
use Rattle.tensor_algebra.specs.Tensor.{Tensor, column, by_columns}
use Rattle.ring_switch.specs.Opening.{Opening, named, high, low, kept_rows}
use Rattle.ring_switch.specs.Claims.{inside, across, successor_claim}
use Rattle.multilinear.specs.Columns.{starts, ends}
use Rattle.ring_switch.specs.Slots.{packed_count}
use Rattle.ring_switch.specs.ClaimLaws.{Binary, opened, opened_carry, opened_last, value_one_row_on, SuccessorIsMultilinear}
use Rattle.ring_switch.proofs.ColumnsBounds.{shift_mod, pow_multiple, pow_mod, starts_not, starts_split, ends_split}
use Rattle.ring_switch.proofs.Columns.{cell_count, cell_entry, multilinear_bits, weighed_columns, carry_column, last_column}
use Rattle.ring_switch.proofs.SuccessorCells.{received, sum_one_row_on}

-- the two forms of the claim
pub claim_inside : {k : ℕ} (A : Arithmetic k) (f : ℕ → Element k) (q : ℕ) (t c l : Tensor k) → ltb k q ≡ false
    → successor_claim A f q t c l ≡ by_columns A (inside f q) t
unfolding successor_claim
claim_inside A f q t c l e = rw e

pub claim_across : {k : ℕ} (A : Arithmetic k) (f : ℕ → Element k) (q : ℕ) (t c l : Tensor k) → ltb k q ≡ true
    → successor_claim A f q t c l
    ≡ plus (by_columns A (across f) t) (A.times (f (width k - 1)) (plus (column c 0) (column l (width k - 1))))
unfolding successor_claim
claim_across A f q t c l e = rw e

module _ {k : ℕ} {A : Arithmetic k} (laws : Laws A) (bits : ℕ → ℕ) (binary : Binary bits) (o : Opening k) (h : k ≤ length o.point) where
  -- the cells of the value one row on, element by element
  value_cells : (q : ℕ) → q ≤ length o.point
      → multilinear A (λ c. standing A (one_row_on q bits c)) o.point
      ≡ sum (packed_count o) (λ w. sum (width k) (λ v. at_bit (bits (w * width k + v)) (received q (equality A o.point) (w * width k + v))))
  value_cells q g =
      multilinear_bits laws (one_row_on q bits) o.point ∙ sum_one_row_on q (2 ^ length o.point) (pow_mod (length o.point) q g) bits (equality A o.point)
      ∙ ap (λ n. sum n (λ c. at_bit (bits c) (received q (equality A o.point) c))) (cell_count o h)
      ∙ sum_rows (packed_count o) (width k) (λ c. at_bit (bits c) (received q (equality A o.point) c))

  -- the entry before a cell that is not the first of its element
  entry_before : (w v : ℕ) → v < width k → 0 < v
      → equality A o.point (w * width k + v - 1) ≡ A.times (equality A (high o) w) (equality A (low o) (v - 1))
  entry_before w v l g =
      let e : w * width k + v - 1 ≡ w * width k + (v - 1) = omega arith in
      ap (equality A o.point) e ∙ cell_entry laws o h w (v - 1) (omega arith)

  -- rows inside an element
  received_inside : (q : ℕ) → q ≤ k → (w v : ℕ) → v < width k
      → A.times (equality A (high o) w) (inside (equality A (low o)) q v) ≡ received q (equality A o.point) (w * width k + v)
  unfolding inside
  received_inside q g w v l =
      let x = equality A (high o) w in
      let a = shift_mod (w * width k) v (2 ^ q) (pow_multiple w k q g) in
      laws.times_plus x _ _
      ∙ ap₂ plus
      (times_where laws (not (starts q v)) x _
      ∙ where_same (not (starts q v)) _ _ (λ e. sym (entry_before w v l (starts_not q v (not-true (starts q v) e))))
      ∙ ap (λ n. where_set (not (eqb n 0)) (equality A o.point (w * width k + v - 1))) (sym a))
      (times_where laws (ends q v) x _ ∙ ap₂ (λ n y. where_set (eqb n (2 ^ q - 1)) y) (sym a) (sym (cell_entry laws o h w v l)))

  inside_is : (q : ℕ) → q ≤ length o.point → q ≤ k
      → by_columns A (inside (equality A (low o)) q) (opened A o bits) ≡ multilinear A (λ c. standing A (one_row_on q bits c)) o.point
  inside_is q g i =
      weighed_columns laws bits binary (packed_count o) (equality A (high o)) (inside (equality A (low o)) q)
      ∙ sum_same (packed_count o) _ _ (λ w _. sum_same (width k) _ _ (λ v l. ap (at_bit (bits (w * width k + v))) (received_inside q i w v l)))
      ∙ sym (value_cells q g)

  -- Rows longer than an element, of 2^r elements: a cell receives from its own element, but for the first of an element, which
  -- receives from the element before unless it starts a column, and the last of one that ends a column, which keeps its own entry.
  received_across : (r w v : ℕ) → v < width k
      → received (r + k) (equality A o.point) (w * width k + v)
      ≡ plus (A.times (equality A (high o) w) (across (equality A (low o)) v))
      (plus (where_set (eqb v 0) (where_set (not (starts r w)) (equality A o.point (w * width k + v - 1))))
      (where_set (eqb v (width k - 1)) (where_set (ends r w) (equality A o.point (w * width k + v)))))
  unfolding across
  received_across r w v l =
      let c = w * width k + v in
      let own : where_set (not (eqb v 0)) (equality A o.point (c - 1)) ≡ A.times (equality A (high o) w) (across (equality A (low o)) v) =
      where_same (not (eqb v 0)) _ _ (λ e. let n = eqb-false v 0 (not-true (eqb v 0) e) in entry_before w v l (omega arith))
      ∙ sym (times_where laws (not (eqb v 0)) (equality A (high o) w) (equality A (low o) (v - 1))) in
      ap₂ plus
      (ap (λ b. where_set (not b) (equality A o.point (c - 1))) (starts_split r k w v l) ∙ where_not_and (starts r w) (eqb v 0) _
      ∙ ap (λ y. plus y (where_set (eqb v 0) (where_set (not (starts r w)) (equality A o.point (c - 1))))) own)
      (ap (λ b. where_set b (equality A o.point c)) (ends_split r k w v l) ∙ where_and (ends r w) (eqb v (width k - 1)) _)
      ∙ plus_assoc _ _ _

  -- the entry before an element's first cell
  entry_before_first : (w : ℕ) → 0 < w
      → equality A o.point (w * width k + 0 - 1) ≡ A.times (equality A (low o) (width k - 1)) (equality A (high o) (w - 1))
  entry_before_first w g =
      let e : w * width k + 0 - 1 ≡ (w - 1) * width k + (width k - 1) = omega (arith, mul_pred g (pow_pos k)) in
      ap (equality A o.point) e ∙ cell_entry laws o h (w - 1) (width k - 1) (ones_lt k) ∙ laws.times_comm _ _

  -- the part of the carry's first column that element w has, and of the last's last column
  carry_part : (r w : ℕ)
      → at_bit (bits (w * width k + 0)) (where_set (not (starts r w)) (equality A o.point (w * width k + 0 - 1)))
      ≡ A.times (equality A (low o) (width k - 1)) (at_bit (bits (w * width k + 0)) (where_set (not (starts r w)) (equality A (high o) (w - 1))))
  carry_part r w =
      let x = equality A (low o) (width k - 1) in
      ap (at_bit (bits (w * width k + 0)))
      (where_same (not (starts r w)) _ _ (λ e. entry_before_first w (starts_not r w (not-true (starts r w) e)))
      ∙ sym (times_where laws (not (starts r w)) x (equality A (high o) (w - 1))))
      ∙ sym (times_at_bit laws (bits (w * width k + 0)) x _)

  last_part : (r w : ℕ)
      → at_bit (bits (w * width k + (width k - 1))) (where_set (ends r w) (equality A o.point (w * width k + (width k - 1))))
      ≡ A.times (equality A (low o) (width k - 1)) (at_bit (bits (w * width k + (width k - 1))) (where_set (ends r w) (equality A (high o) w)))
  last_part r w =
      let x = equality A (low o) (width k - 1) in
      ap (at_bit (bits (w * width k + (width k - 1))))
      (ap (where_set (ends r w)) (cell_entry laws o h w (width k - 1) (ones_lt k) ∙ laws.times_comm _ _) ∙ sym (times_where laws (ends r w) x (equality A (high o) w)))
      ∙ sym (times_at_bit laws (bits (w * width k + (width k - 1))) x _)

  -- what the cells of one element receive
  element_received : (r w : ℕ)
      → sum (width k) (λ v. at_bit (bits (w * width k + v)) (received (r + k) (equality A o.point) (w * width k + v)))
      ≡ plus (sum (width k) (λ v. at_bit (bits (w * width k + v)) (A.times (equality A (high o) w) (across (equality A (low o)) v))))
      (plus (A.times (equality A (low o) (width k - 1)) (at_bit (bits (w * width k + 0)) (where_set (not (starts r w)) (equality A (high o) (w - 1)))))
      (A.times (equality A (low o) (width k - 1)) (at_bit (bits (w * width k + (width k - 1))) (where_set (ends r w) (equality A (high o) w)))))
  element_received r w =
      sum_same (width k) _ _ (λ v l.
      let b = bits (w * width k + v) in
      ap (at_bit b) (received_across r w v l) ∙ at_bit_plus b _ _ ∙ ap (plus _) (at_bit_plus b _ _ ∙ ap₂ plus (at_bit_where b (eqb v 0) _) (at_bit_where b (eqb v (width k - 1)) _)))
      ∙ sum_plus (width k) _ _
      ∙ ap (plus _) (sum_plus (width k) _ _
      ∙ ap₂ plus (sum_single (width k) 0 (pow_pos k) _ ∙ carry_part r w) (sum_single (width k) (width k - 1) (ones_lt k) _ ∙ last_part r w))

  across_is : named o.view ≤ length o.point → k < named o.view
      → plus (by_columns A (across (equality A (low o))) (opened A o bits))
      (A.times (equality A (low o) (width k - 1)) (plus (column (opened_carry A o bits) 0) (column (opened_last A o bits) (width k - 1))))
      ≡ value_one_row_on A o bits
  across_is g i =
      let q = named o.view in
      let r = kept_rows o in
      let n = packed_count o in
      let top = equality A (low o) (width k - 1) in
      let e : r + k ≡ q = omega arith in
      ap₂ plus (weighed_columns laws bits binary n (equality A (high o)) (across (equality A (low o))))
      (laws.times_plus top _ _
      ∙ ap₂ plus
      (ap (A.times top) (carry_column bits binary r n (equality A (high o)) 0 (pow_pos k)) ∙ times_sum laws top n _)
      (ap (A.times top) (last_column bits binary r n (equality A (high o)) (width k - 1) (ones_lt k)) ∙ times_sum laws top n _)
      ∙ sym (sum_plus n _ _))
      ∙ sym (sum_plus n _ _) ∙ sum_same n _ _ (λ w _. sym (element_received r w))
      ∙ ap (λ m. sum n (λ w. sum (width k) (λ v. at_bit (bits (w * width k + v)) (received m (equality A o.point) (w * width k + v))))) e
      ∙ sym (value_cells q g)

pub successor_is_multilinear : {k : ℕ} {A : Arithmetic k} → Laws A → (bits : ℕ → ℕ) → Binary bits → (o : Opening k) → k ≤ length o.point
    → named o.view ≤ length o.point → SuccessorIsMultilinear A o bits
successor_is_multilinear {k} {A} laws bits binary o h g =
    let q = named o.view in
    let f = equality A (low o) in
    ⊎_elim
    (λ e. claim_across A f q _ _ _ e ∙ across_is laws bits binary o h g (ltb-true k q e))
    (λ e. claim_inside A f q _ _ _ e ∙ inside_is laws bits binary o h q g (ltb-false k q e))
    (cases_Bool (ltb k q))
