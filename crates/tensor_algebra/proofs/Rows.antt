-- The rows of tensors, each times a weight.
use Rattle.std.proofs.Common.{◌≡◌, ℕ, Bool, sym, ap, ◌∙◌}
use Rattle.level.specs.Element.{Element, width, coordinate}
use Rattle.level.specs.Laws.{Arithmetic, Laws}
use Rattle.multilinear.specs.Sums.{sum, where_set, at_bit}
use Rattle.multilinear.proofs.Sums.{sum_same, sum_exchange, where_sum, times_sum, times_at_bit, times_where}
use Rattle.tensor_algebra.specs.Tensor.{Tensor, exterior, subset_sum, batch_rows}

module _ {k : ℕ} {A : Arithmetic k} (laws : Laws A) (f : ℕ → Element k) where
  pub batch_exterior : (a b : Element k) → batch_rows A f (exterior a b) ≡ A.times b (subset_sum f a)
  unfolding batch_rows exterior subset_sum
  batch_exterior a b =
      sum_same (width k) _ _ (λ u _.
      times_at_bit laws (coordinate a u) (f u) b ∙ ap (at_bit (coordinate a u)) (laws.times_comm (f u) b)
      ∙ sym (times_at_bit laws (coordinate a u) b (f u)))
      ∙ sym (times_sum laws b (width k) (λ u. at_bit (coordinate a u) (f u)))

  pub batch_where : (c : Bool) (t : Tensor k) → batch_rows A f (λ u. where_set c (t u)) ≡ where_set c (batch_rows A f t)
  unfolding batch_rows
  batch_where c t =
      sum_same (width k) _ _ (λ u _. times_where laws c (f u) (t u)) ∙ sym (where_sum c (width k) (λ u. A.times (f u) (t u)))

  pub batch_sum : (n : ℕ) (t : ℕ → Tensor k) → batch_rows A f (λ u. sum n (λ w. t w u)) ≡ sum n (λ w. batch_rows A f (t w))
  unfolding batch_rows
  batch_sum n t =
      sum_same (width k) _ _ (λ u _. times_sum laws (f u) n (λ w. t w u)) ∙ sum_exchange (width k) n (λ u w. A.times (f u) (t w u))

  -- the batched rows of a sum of exterior products, some left out
  pub batch_exteriors : (n : ℕ) (c : ℕ → Bool) (a b : ℕ → Element k)
      → batch_rows A f (λ u. sum n (λ w. where_set (c w) (exterior (a w) (b w) u)))
      ≡ sum n (λ w. where_set (c w) (A.times (b w) (subset_sum f (a w))))
  batch_exteriors n c a b =
      batch_sum n (λ w u. where_set (c w) (exterior (a w) (b w) u))
      ∙ sum_same n _ _ (λ w _. batch_where (c w) (exterior (a w) (b w)) ∙ ap (where_set (c w)) (batch_exterior (a w) (b w)))
