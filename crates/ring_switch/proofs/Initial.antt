-- Batched rows as sums over the packed elements, and the initial sum by the weights of a slot.
use Rattle.std.proofs.Common.{◌≡◌, ℕ, ◌-◌, Bool, true, not, Some, None, Option, sym, ap, ◌∙◌, ap₂}
use Rattle.level.specs.Element.{Element, plus}
use Rattle.level.specs.Laws.{Arithmetic, Laws}
use Rattle.level.proofs.Elements.{plus_assoc}
use Rattle.level.proofs.Ring.{times_left_comm}
use Rattle.multilinear.specs.Sums.{sum, where_set}
use Rattle.multilinear.proofs.Sums.{sum_same, sum_plus, times_sum, times_where}
use Rattle.tensor_algebra.specs.Tensor.{subset_sum}
use Rattle.tensor_algebra.proofs.Rows.{batch_exteriors}
use Rattle.ring_switch.specs.Claims.{tensor, carry, last}
use Rattle.multilinear.specs.Columns.{starts, ends}
use Rattle.ring_switch.specs.Batching.{settled, weight, successor_rows, initial_sum}
use Rattle.ring_switch.specs.BatchingLaws.{RowsAreBatched, InitialSumIsWeighted}

pub rows_are_batched : RowsAreBatched
unfolding tensor carry last where_set
rows_are_batched = record {
  of_tensor = λ laws f e t n. batch_exteriors laws f n (λ w. true) e t;
  of_carry = λ laws f e t r n. batch_exteriors laws f n (λ w. not (starts r w)) (λ w. e (w - 1)) t;
  of_last = λ laws f e t r n. batch_exteriors laws f n (ends r) e t;
}

module _ {k : ℕ} {A : Arithmetic k} (laws : Laws A) where
  -- one term of the sum by weights: x a packed element, s and s' the batching weights of its entry and of the entry before
  weighted : (α x s s' : Element k) (c e : Bool)
      → plus (A.times x s) (plus (A.times α (where_set c (A.times x s'))) (A.times α (A.times α (where_set e (A.times x s)))))
      ≡ A.times x (plus (plus s (where_set c (A.times α s'))) (where_set e (A.times (A.times α α) s)))
  weighted α x s s' c e = simp (times_where laws, laws.times_plus, laws.times_assoc, times_left_comm laws, plus_assoc)

  -- α·(y + α·z) + x, for sums x, y and z
  successor_sum : (α : Element k) (n : ℕ) (x y z : ℕ → Element k)
      → plus (sum n x) (A.times α (plus (sum n y) (A.times α (sum n z))))
      ≡ sum n (λ i. plus (x i) (plus (A.times α (y i)) (A.times α (A.times α (z i)))))
  successor_sum α n x y z =
      ap (plus (sum n x))
      (laws.times_plus α (sum n y) (A.times α (sum n z))
      ∙ ap₂ plus (times_sum laws α n y) (ap (A.times α) (times_sum laws α n z) ∙ times_sum laws α n (λ i. A.times α (z i)))
      ∙ sym (sum_plus n (λ i. A.times α (y i)) (λ i. A.times α (A.times α (z i)))))
      ∙ sym (sum_plus n x (λ i. plus (A.times α (y i)) (A.times α (A.times α (z i)))))

  pub initial_weighted : (f e : ℕ → Element k) (r : ℕ) (α : Option (Element k)) (n : ℕ) (t : ℕ → Element k)
      → initial_sum A f α (tensor n e t) (carry r n e t) (last r n e t) ≡ sum n (λ i. A.times (t i) (weight A f e r α i))
  unfolding initial_sum successor_rows weight settled
  initial_weighted f e r None n t = rows_are_batched.of_tensor laws f e t n
  initial_weighted f e r (Some α) n t =
      ap₂ plus (rows_are_batched.of_tensor laws f e t n)
      (ap₂ (λ y z. A.times α (plus y (A.times α z))) (rows_are_batched.of_carry laws f e t r n) (rows_are_batched.of_last laws f e t r n))
      ∙ successor_sum α n _ _ _
      ∙ sum_same n _ _ (λ i _. weighted α (t i) (s i) (s (i - 1)) (not (starts r i)) (ends r i))
    where
      s : ℕ → Element k
      s i = subset_sum f (e i)

pub initial_sum_is_weighted : InitialSumIsWeighted
initial_sum_is_weighted k A laws = initial_weighted laws
