-- The value of a table one row on, as a sum over the cells that its bits are read from.
use Rattle.std.proofs.Common.{◌≡◌, ℕ, suc, ◌+◌, ◌-◌, ◌%◌, ◌^◌, Bool, true, false, cond, not, sym, ap, ◌∙◌, ap₂, add-one, arith}
use native.Mathlib.Nat.{zero-mod}
use Rattle.std.proofs.lemmas.Bool.{eq-eqb}
use Rattle.level.specs.Element.{Element, plus, zeros}
use Rattle.level.proofs.Elements.{plus_zeros, zeros_plus}
use Rattle.multilinear.specs.Sums.{sum, where_set, at_bit}
use Rattle.multilinear.specs.Cells.{successor, one_row_on}
use Rattle.multilinear.proofs.Sums.{sum_same, sum_plus, sum_first, at_bit_plus}
use Rattle.multilinear.proofs.Windows.{at_bit_where}
use Rattle.multilinear.specs.Columns.{starts, ends}
use Rattle.ring_switch.proofs.ColumnsBounds.{starts_suc}

module _ {k : ℕ} where
  -- what cell c receives: the entry before it in its column, and its own again where it ends one
  abbrev pub received : ℕ → (ℕ → Element k) → ℕ → Element k
  received q e c = plus (where_set (not (starts q c)) (e (c - 1))) (where_set (ends q c) (e c))

  -- a sum over the cells that end no column, each with the next, is one over the cells that start none, each with the one before
  moved : (q n : ℕ) → n % 2 ^ q ≡ 0 → (x : ℕ → ℕ → Element k)
      → sum n (λ c. where_set (not (ends q c)) (x (suc c) c)) ≡ sum n (λ c. where_set (not (starts q c)) (x c (c - 1)))
  unfolding sum where_set
  moved q n a x =
      sum_same n _ _ (λ c _.
      let e : c ≡ suc c - 1 = omega arith in
      ap₂ (λ b d. where_set (not b) (x (suc c) d)) (sym (starts_suc q c)) e)
      ∙ sym (zeros_plus _) ∙ ap (λ z. plus z (sum n (λ c. term (suc c)))) (sym (term_none 0 (zero-mod (2 ^ q)))) ∙ sym (sum_first n term)
      ∙ ap (plus (sum n term)) (term_none n a) ∙ plus_zeros (sum n term)
    where
      term : ℕ → Element k
      term c = where_set (not (starts q c)) (x c (c - 1))

      term_none : (c : ℕ) → c % 2 ^ q ≡ 0 → term c ≡ zeros k
      term_none c h = ap (λ b. where_set (not b) (x c (c - 1))) (eq-eqb (c % 2 ^ q) 0 h)

  next_or_same : (b : Bool) (bits : ℕ → ℕ) (c : ℕ) (y : Element k)
      → at_bit (bits (cond b c (c + 1))) y ≡ plus (where_set (not b) (at_bit (bits (suc c)) y)) (where_set b (at_bit (bits c) y))
  unfolding where_set
  next_or_same true bits c y = sym (zeros_plus _)
  next_or_same false bits c y = ap (λ i. at_bit (bits i) y) (add-one c) ∙ sym (plus_zeros _)

  pub sum_one_row_on : (q n : ℕ) → n % 2 ^ q ≡ 0 → (bits : ℕ → ℕ) (e : ℕ → Element k)
      → sum n (λ c. at_bit (one_row_on q bits c) (e c)) ≡ sum n (λ c. at_bit (bits c) (received q e c))
  unfolding one_row_on successor
  sum_one_row_on q n a bits e =
      sum_same n _ _ (λ c _. next_or_same (ends q c) bits c (e c)) ∙ sum_plus n _ _
      ∙ ap (λ s. plus s (sum n (λ c. where_set (ends q c) (at_bit (bits c) (e c))))) (moved q n a (λ t s. at_bit (bits t) (e s)))
      ∙ sym (sum_plus n _ _)
      ∙ sum_same n _ _ (λ c _.
      sym (at_bit_plus (bits c) _ _ ∙ ap₂ plus (at_bit_where (bits c) (not (starts q c)) (e (c - 1))) (at_bit_where (bits c) (ends q c) (e c))))
