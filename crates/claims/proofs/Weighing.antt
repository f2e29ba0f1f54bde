-- Columns against weights.
use Rattle.std.proofs.Common.{◌≡◌, ℕ, ◌<◌, ◌≤◌, List, length, ap, ◌∙◌, arith}
use Rattle.level.specs.Element.{Element, width}
use Rattle.level.specs.Laws.{Arithmetic}
use Rattle.multilinear.specs.Lent.{lent}
use Rattle.multilinear.specs.Sums.{sum}
use Rattle.multilinear.proofs.Sums.{sum_same}
use Rattle.tensor_algebra.specs.Tensor.{Tensor, column, by_columns}
use Rattle.coordinates.proofs.Batched.{batched}

-- weights that agree below the width give one sum
pub by_columns_same : {k : ℕ} (A : Arithmetic k) (f g : ℕ → Element k) (t : Tensor k) → ((v : ℕ) → v < width k → f v ≡ g v)
    → by_columns A f t ≡ by_columns A g t
unfolding by_columns
by_columns_same {k} A f g t e = sum_same (width k) _ _ (λ v h. ap (A.times (column t v)) (e v h))

module _ {X : Type 0} {k : ℕ} (means : X → Element k) (A : Arithmetic k) where
  -- all columns weighed
  pub weighed_all : (cs ws : List X) (i : ℕ) (s : Element k) → length cs ≡ width k → i ≤ length cs → length cs ≤ i → s ≡ batched means A cs ws i
      → s ≡ sum (width k) (λ v. A.times (lent means cs v) (lent means ws v))
  unfolding batched
  weighed_all cs ws i s wide below above e = let all : i ≡ width k = omega arith in e ∙ ap (batched means A cs ws) all

  pub columns_weighed : (xs cs ws : List X) (r : Element k) → lent means cs ≡ column (lent means xs)
      → r ≡ sum (width k) (λ v. A.times (lent means cs v) (lent means ws v)) → r ≡ by_columns A (lent means ws) (lent means xs)
  unfolding by_columns
  columns_weighed xs cs ws r made e = e ∙ ap (λ t. sum (width k) (λ v. A.times (t v) (lent means ws v))) made
