-- Batching weights that agree below the width: neither end looks at them further on.
use Rattle.std.proofs.Common.{◌≡◌, ℕ, ◌-◌, ◌<◌, not, Some, None, Option, ap, ap₂}
use Rattle.level.specs.Element.{Element, width, coordinate, plus}
use Rattle.level.specs.Laws.{Arithmetic}
use Rattle.multilinear.specs.Columns.{starts, ends}
use Rattle.multilinear.specs.Equality.{Point}
use Rattle.multilinear.specs.Sums.{where_set, at_bit}
use Rattle.multilinear.proofs.Sums.{sum_same}
use Rattle.tensor_algebra.specs.Tensor.{Tensor, subset_sum, batch_rows, equality_element}
use Rattle.ring_switch.specs.Batching.{settled, weight, successor_rows, initial_sum, carry_element, last_element, closing_value}

module _ {k : ℕ} (A : Arithmetic k) (f g : ℕ → Element k) (agree : (u : ℕ) → u < width k → f u ≡ g u) where
  pub subset_sum_agrees : (x : Element k) → subset_sum f x ≡ subset_sum g x
  unfolding subset_sum
  subset_sum_agrees x = sum_same (width k) _ _ (λ u h. ap (at_bit (coordinate x u)) (agree u h))

  pub batch_rows_agrees : (t : Tensor k) → batch_rows A f t ≡ batch_rows A g t
  unfolding batch_rows
  batch_rows_agrees t = sum_same (width k) _ _ (λ u h. ap (λ x. A.times x (t u)) (agree u h))

  pub settled_agrees : (e : ℕ → Element k) (i : ℕ) → settled f e i ≡ settled g e i
  unfolding settled
  settled_agrees e i = subset_sum_agrees (e i)

  pub weight_agrees : (e : ℕ → Element k) (r : ℕ) (α : Option (Element k)) (i : ℕ) → weight A f e r α i ≡ weight A g e r α i
  unfolding weight
  weight_agrees e r None i = settled_agrees e i
  weight_agrees e r (Some α) i =
      ap₂ (λ s p. plus (plus s (where_set (not (starts r i)) (A.times α p))) (where_set (ends r i) (A.times (A.times α α) s)))
      (settled_agrees e i) (settled_agrees e (i - 1))

  pub successor_rows_agrees : (α : Element k) (c l : Tensor k) → successor_rows A f α c l ≡ successor_rows A g α c l
  unfolding successor_rows
  successor_rows_agrees α c l = ap₂ (λ x y. A.times α (plus x (A.times α y))) (batch_rows_agrees c) (batch_rows_agrees l)

  pub initial_sum_agrees : (α : Option (Element k)) (t c l : Tensor k) → initial_sum A f α t c l ≡ initial_sum A g α t c l
  unfolding initial_sum
  initial_sum_agrees None t c l = batch_rows_agrees t
  initial_sum_agrees (Some α) t c l = ap₂ plus (batch_rows_agrees t) (successor_rows_agrees α c l)

  pub closing_value_agrees : (slot : Point k) (r : ℕ) (α : Option (Element k)) (z : Point k)
      → closing_value A f slot r α z ≡ closing_value A g slot r α z
  unfolding closing_value
  closing_value_agrees slot r None z = batch_rows_agrees (equality_element A slot z)
  closing_value_agrees slot r (Some α) z =
      ap₂ plus (batch_rows_agrees (equality_element A slot z)) (successor_rows_agrees α (carry_element A r slot z) (last_element A r slot z))
