-- The closing elements are the tensor, the carry and the last of two equality tables, so the closing value is an initial sum.
use Rattle.std.proofs.Common.{◌≡◌, ℕ, suc, ◌+◌, ◌-◌, ◌*◌, ◌%◌, ◌^◌, ◌<◌, ◌≤◌, min, not, eqb, ◌++◌, length, take, drop, Some, None, Option, sym, refl, ap, ◌∙◌, ap₂, arith, length-append, length-drop, take-append-drop, length-take, pow_pos, pow-add}
use mathlib.Core.Path.{fun_ext}
use lib.Arith.{digits_mod}
use lib.Pow.{ones_lt, suc_ones}
use Rattle.std.proofs.lemmas.Bool.{eq-eqb, ne_eqb, not_from_true, not_from_false}
use Rattle.level.specs.Element.{Element, plus}
use Rattle.level.specs.Laws.{Arithmetic, Laws}
use Rattle.level.proofs.Elements.{zeros_plus}
use Rattle.multilinear.specs.Sums.{sum, where_set}
use Rattle.multilinear.specs.Equality.{Point, equality, multilinear}
use Rattle.multilinear.proofs.Sums.{sum_same, sum_rows, sum_first}
use Rattle.multilinear.proofs.Entries.{entry_parts}
use Rattle.multilinear.proofs.Windows.{sum_single}
use Rattle.tensor_algebra.specs.Tensor.{exterior, product, batch_rows, equality_element, successor_element, equality_factors}
use Rattle.tensor_algebra.proofs.Kept.{where_in, where_out}
use Rattle.tensor_algebra.proofs.Tables.{entry_last}
use Rattle.tensor_algebra.proofs.Factors.{exteriors, equality_exteriors, successor_exteriors, factors_exteriors}
use Rattle.ring_switch.specs.Claims.{tensor, carry, last}
use Rattle.multilinear.specs.Columns.{starts, ends}
use Rattle.ring_switch.specs.Batching.{weight, successor_rows, initial_sum, carry_element, last_element, closing_value}
use Rattle.ring_switch.specs.BatchingLaws.{ClosingElementsAreTensors, ClosingIsMultilinear}
use Rattle.ring_switch.proofs.Initial.{initial_weighted}

module _ {k : ℕ} {A : Arithmetic k} (laws : Laws A) where
  pub equality_is_tensor : (slot z : Point k) → length z ≡ length slot
      → equality_element A slot z ≡ tensor (2 ^ length slot) (equality A slot) (equality A z)
  unfolding tensor
  equality_is_tensor slot z e = equality_exteriors laws slot z e

  -- points in two parts, the second of which spans a column
  module _ (a b c d : Point k) (ea : length c ≡ length a) (eb : length d ≡ length b) where
    abbrev spanned : ℕ
    spanned = 2 ^ length b

    sum_columns : (f : ℕ → Element k) → sum (2 ^ length (a ++ b)) f ≡ sum (2 ^ length a) (λ j. sum spanned (λ i. f (j * spanned + i)))
    sum_columns f =
        ap (λ m. sum m f) (ap (λ l. 2 ^ l) (length-append a b) ∙ pow-add 2 (length a) (length b)) ∙ sum_rows (2 ^ length a) spanned f

    first_parts : (j i : ℕ) → i < spanned → equality A (a ++ b) (j * spanned + i) ≡ A.times (equality A a j) (equality A b i)
    first_parts j i h = entry_parts laws A.unit a b j i h

    second_parts : (j i : ℕ) → i < spanned → equality A (c ++ d) (j * spanned + i) ≡ A.times (equality A c j) (equality A d i)
    second_parts j i h =
        ap (λ l. equality A (c ++ d) (j * 2 ^ l + i)) (sym eb) ∙ entry_parts laws A.unit c d j i (rw eb h)

    carry_column : (j u : ℕ)
        → sum spanned (λ i. where_set (not (starts (length b) (j * spanned + i)))
        (exterior (equality A (a ++ b) (j * spanned + i - 1)) (equality A (c ++ d) (j * spanned + i)) u))
        ≡ exteriors (spanned - 1) (λ i. A.times (equality A a j) (equality A b i)) (λ i. A.times (equality A c j) (equality A d (suc i))) u
    carry_column j u =
        ap (λ m. sum m f) (sym (suc_ones (length b))) ∙ sum_first (spanned - 1) f
        ∙ ap₂ plus (where_out _ _ (not_from_true _ (eq-eqb _ 0 (digits_mod j (pow_pos (length b))))))
        (sum_same (spanned - 1) _ _ (λ i h.
        let l : suc i < spanned = omega arith in
        let e : j * spanned + suc i - 1 ≡ j * spanned + i = omega arith in
        let ne : (j * spanned + suc i) % spanned ≡ suc i = digits_mod j l in
        where_in _ _ (not_from_false _ (ne_eqb _ 0 (λ z. omega arith)))
        ∙ ap₂ (λ s t. exterior s t u) (ap (equality A (a ++ b)) e ∙ first_parts j i (omega arith)) (second_parts j (suc i) l)))
        ∙ zeros_plus _
      where
        f : ℕ → Element k
        f i = where_set (not (starts (length b) (j * spanned + i)))
            (exterior (equality A (a ++ b) (j * spanned + i - 1)) (equality A (c ++ d) (j * spanned + i)) u)

    carry_parts : (u : ℕ) → equality_factors A a c (successor_element A b d) u
        ≡ carry (length b) (2 ^ length (a ++ b)) (equality A (a ++ b)) (equality A (c ++ d)) u
    unfolding carry
    carry_parts u =
        ap (λ t. equality_factors A a c t u) (successor_exteriors laws b d eb)
        ∙ factors_exteriors laws a c ea (spanned - 1) (equality A b) (λ i. equality A d (suc i)) u
        ∙ sum_same (2 ^ length a) _ _ (λ j _. sym (carry_column j u)) ∙ sym (sum_columns _)

    last_column : (j u : ℕ)
        → sum spanned (λ i. where_set (ends (length b) (j * spanned + i))
        (exterior (equality A (a ++ b) (j * spanned + i)) (equality A (c ++ d) (j * spanned + i)) u))
        ≡ exteriors 1 (λ i. A.times (equality A a j) (product A b)) (λ i. A.times (equality A c j) (product A d)) u
    unfolding sum
    last_column j u =
        sum_same spanned _ _ (λ i h. ap₂ (λ m x. where_set (eqb m (spanned - 1)) x) (digits_mod j h)
        (ap₂ (λ s t. exterior s t u) (first_parts j i h) (second_parts j i h)))
        ∙ sum_single spanned (spanned - 1) (ones_lt (length b)) (λ i. exterior (A.times (equality A a j) (equality A b i)) (A.times (equality A c j) (equality A d i)) u)
        ∙ ap₂ (λ s t. exterior (A.times (equality A a j) s) (A.times (equality A c j) t) u) (entry_last laws b)
        (ap (λ l. equality A d (2 ^ l - 1)) (sym eb) ∙ entry_last laws d)
        ∙ sym (zeros_plus _)

    last_parts : (u : ℕ) → equality_factors A a c (exterior (product A b) (product A d)) u
        ≡ last (length b) (2 ^ length (a ++ b)) (equality A (a ++ b)) (equality A (c ++ d)) u
    unfolding last sum
    last_parts u =
        ap (λ t. equality_factors A a c t u) (fun_ext (λ u. sym (zeros_plus _)))
        ∙ factors_exteriors laws a c ea 1 (λ i. product A b) (λ i. product A d) u
        ∙ sum_same (2 ^ length a) _ _ (λ j _. sym (last_column j u)) ∙ sym (sum_columns _)

  -- the points of a closing in two parts: all but the last r coordinates, and those
  module _ (slot z : Point k) (r : ℕ) (h : r ≤ length slot) (e : length z ≡ length slot) where
    abbrev kept : ℕ
    kept = length slot - r

    kept_same : length (take kept z) ≡ length (take kept slot)
    kept_same = length-take kept z ∙ ap (min kept) e ∙ sym (length-take kept slot)

    spanned_same : length (drop kept z) ≡ length (drop kept slot)
    spanned_same = length-drop kept z ∙ ap (λ l. l - kept) e ∙ sym (length-drop kept slot)

    spanned_rows : length (drop kept slot) ≡ r
    spanned_rows = length-drop kept slot ∙ omega arith

    pub carry_is : carry_element A r slot z ≡ carry r (2 ^ length slot) (equality A slot) (equality A z)
    unfolding carry_element
    carry_is =
        fun_ext (λ u. carry_parts (take kept slot) (drop kept slot) (take kept z) (drop kept z) kept_same spanned_same u
        ∙ ap₂ (λ p q. carry (length (drop kept slot)) (2 ^ length p) (equality A p) (equality A q) u)
        (take-append-drop kept slot) (take-append-drop kept z)
        ∙ ap (λ n. carry n (2 ^ length slot) (equality A slot) (equality A z) u) spanned_rows)

    pub last_is : last_element A r slot z ≡ last r (2 ^ length slot) (equality A slot) (equality A z)
    unfolding last_element
    last_is =
        fun_ext (λ u. last_parts (take kept slot) (drop kept slot) (take kept z) (drop kept z) kept_same spanned_same u
        ∙ ap₂ (λ p q. last (length (drop kept slot)) (2 ^ length p) (equality A p) (equality A q) u)
        (take-append-drop kept slot) (take-append-drop kept z)
        ∙ ap (λ n. last n (2 ^ length slot) (equality A slot) (equality A z) u) spanned_rows)

  -- a sum by weights of the entries of the closing point's table is the weights' multilinear value
  weights_at : (w : ℕ → Element k) (slot z : Point k) → length z ≡ length slot
      → sum (2 ^ length slot) (λ i. A.times (equality A z i) (w i)) ≡ multilinear A w z
  unfolding multilinear
  weights_at w slot z e =
      ap (λ l. sum (2 ^ l) (λ i. A.times (equality A z i) (w i))) (sym e)
      ∙ sum_same (2 ^ length z) _ _ (λ i _. laws.times_comm (equality A z i) (w i))

  pub closing_multilinear : (f : ℕ → Element k) (slot : Point k) (r : ℕ) → r ≤ length slot → (α : Option (Element k))
      → (z : Point k) → length z ≡ length slot → closing_value A f slot r α z ≡ multilinear A (weight A f (equality A slot) r α) z
  unfolding closing_value initial_sum
  closing_multilinear f slot r h None z e =
      ap (batch_rows A f) (equality_is_tensor slot z e)
      ∙ initial_weighted laws f (equality A slot) r None (2 ^ length slot) (equality A z) ∙ weights_at _ slot z e
  closing_multilinear f slot r h (Some α) z e =
      ap₂ (λ t s. plus (batch_rows A f t) s) (equality_is_tensor slot z e)
      (ap₂ (successor_rows A f α) (carry_is slot z r h e) (last_is slot z r h e))
      ∙ initial_weighted laws f (equality A slot) r (Some α) (2 ^ length slot) (equality A z) ∙ weights_at _ slot z e

pub closing_elements_are_tensors : ClosingElementsAreTensors
closing_elements_are_tensors = record {
  equality_is = equality_is_tensor;
  carry_is = carry_is;
  last_is = last_is;
}

pub closing_is_multilinear : ClosingIsMultilinear
closing_is_multilinear k A laws = closing_multilinear laws
