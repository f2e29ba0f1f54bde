-- Elements that were each made zero.
use Rattle.std.proofs.Common.{◌≡◌, ℕ, zero, suc, List, [], ◌∷◌, arith}
use mathlib.Core.Path.{fun_ext}
use Rattle.std.specs.List.{FoldsTo}
use Rattle.level.specs.Element.{Element, zeros}
use Rattle.multilinear.specs.Lent.{lent}
use Rattle.multilinear.proofs.Lent.{lent_past}
use Rattle.tensor_algebra.specs.Tensor.{nothing}

module _ {X : Type 0} {k : ℕ} (means : X → Element k) where
  filled_at : {F : Type 0} (step : F → X → F → Type 0) → ((p q : F) (x : X) → step p x q → means x ≡ zeros k)
      → (p q : F) (xs : List X) → FoldsTo step p xs q → (i : ℕ) → lent means xs i ≡ zeros k
  filled_at step each p q [] f i = lent_past means [] i (omega arith)
  filled_at step each p q (x ∷ xs) f zero = each p f.0 x f.1
  filled_at step each p q (x ∷ xs) f (suc i) = filled_at step each f.0 q xs f.2 i

  pub filled_nothing : {F : Type 0} (step : F → X → F → Type 0) → ((p q : F) (x : X) → step p x q → means x ≡ zeros k)
      → (p q : F) (xs : List X) → FoldsTo step p xs q → lent means xs ≡ nothing
  unfolding nothing
  filled_nothing step each p q xs f = fun_ext (filled_at step each p q xs f)
