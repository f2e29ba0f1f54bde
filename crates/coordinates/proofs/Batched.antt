-- The sum of the rows of a tensor, each times its weight, a row at a time.
use Rattle.std.proofs.Common.{◌≡◌, ℕ, ◌+◌, ◌<◌, ◌≤◌, List, length, get_or, sym, ap, ◌∙◌, ap₂, add-one, arith}
use Rattle.level.specs.Element.{Element, width, plus, zeros}
use Rattle.level.specs.Laws.{Arithmetic}
use Rattle.multilinear.specs.Lent.{lent}
use Rattle.multilinear.specs.Sums.{sum}
use Rattle.multilinear.proofs.Lent.{lent_read}
use Rattle.tensor_algebra.specs.Tensor.{batch_rows}

module _ {X : Type 0} {k : ℕ} (means : X → Element k) (A : Arithmetic k) (ws xs : List X) where
  unfoldable pub batched : ℕ → Element k
  batched i = sum i (λ u. A.times (lent means ws u) (lent means xs u))

  pub batched_none : (s : Element k) → s ≡ zeros k → s ≡ batched 0
  unfolding batched sum
  batched_none s e = e

  pub batched_more : (i : ℕ) (w x : X) (s r : Element k) → i < length ws → i < length xs → w ≡ get_or ws i w → x ≡ get_or xs i x
      → r ≡ plus s (A.times (means w) (means x)) → s ≡ batched i → r ≡ batched (i + 1)
  unfolding batched sum
  batched_more i w x s r h l weight row made e =
      made ∙ ap₂ plus e (ap₂ A.times (lent_read means ws i w h weight) (lent_read means xs i x l row)) ∙ ap batched (sym (add-one i))

  pub batched_all : (i : ℕ) (s : Element k) → length xs ≡ width k → i ≤ length xs → length xs ≤ i → s ≡ batched i
      → s ≡ batch_rows A (lent means ws) (lent means xs)
  unfolding batched batch_rows
  batched_all i s wide below above e = let all : i ≡ width k = omega arith in e ∙ ap batched all
