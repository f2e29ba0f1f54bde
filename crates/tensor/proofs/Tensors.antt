-- Tensors row by row: what their definitions have at one row, and past the last.
use Rattle.std.proofs.Common.{◌≡◌, ◌==◌, ℕ, zero, suc, Bool, true, false, ◌<◌, ◌≤◌, refl, sym, ap, ◌∙◌, ap₂, arith}
use mathlib.Core.Path.{fun_ext}
use Rattle.level.specs.Element.{Element, width, coordinate, plus, zeros}
use Rattle.level.specs.Laws.{Arithmetic, Laws}
use Rattle.level.proofs.Elements.{plus_zeros, zeros_plus}
use Rattle.level.proofs.Ring.{times_zeros}
use Rattle.multilinear.specs.Sums.{at_bit, where_set}
use Rattle.multilinear.proofs.Coordinates.{coordinate_past}
use Rattle.tensor_algebra.specs.Tensor.{Tensor, nothing, exterior, add, scale_rows}

module _ {k : ℕ} where
  pub nothing_is : (u : ℕ) → nothing {k = k} u ≡ zeros k
  unfolding nothing
  nothing_is u = refl

  pub add_is : (t s : Tensor k) (u : ℕ) → add t s u ≡ plus (t u) (s u)
  unfolding add
  add_is t s u = refl

  pub exterior_is : (a b : Element k) (u : ℕ) → exterior a b u ≡ at_bit (coordinate a u) b
  unfolding exterior
  exterior_is a b u = refl

  pub scale_rows_is : (A : Arithmetic k) (b : Element k) (t : Tensor k) (u : ℕ) → scale_rows A b t u ≡ A.times b (t u)
  unfolding scale_rows
  scale_rows_is A b t u = refl

  -- past the last row
  pub exterior_past : (a b : Element k) (u : ℕ) → width k ≤ u → exterior a b u ≡ zeros k
  unfolding exterior at_bit
  exterior_past a b u h = ap (λ n. at_bit n b) (coordinate_past a u h)

  pub add_past : (t s : Tensor k) (u : ℕ) → t u ≡ zeros k → s u ≡ zeros k → add t s u ≡ zeros k
  unfolding add
  add_past t s u e f = ap₂ plus e f ∙ plus_zeros (zeros k)

  pub scale_rows_past : {A : Arithmetic k} → Laws A → (b : Element k) (t : Tensor k) (u : ℕ) → t u ≡ zeros k → scale_rows A b t u ≡ zeros k
  unfolding scale_rows
  scale_rows_past {A} laws b t u e = ap (A.times b) e ∙ times_zeros laws b

  -- a row with b added or not, by the bit
  pub added_where_set : (set : Bool) (x b y : Element k) → set ≡ true → y ≡ plus x b → y ≡ plus x (where_set set b)
  unfolding where_set
  added_where_set set x b y e made = made ∙ ap (λ n. plus x (where_set n b)) (sym e)

  pub kept_where_clear : (set : Bool) (x b : Element k) → set ≡ false → x ≡ plus x (where_set set b)
  unfolding where_set
  kept_where_clear set x b e = sym (ap (λ n. plus x (where_set n b)) e ∙ plus_zeros x)

  -- a binary digit as a bit
  pub digit_set : (c : ℕ) (b : Element k) → c < 2 → where_set (c == 1) b ≡ at_bit c b
  unfolding where_set at_bit
  digit_set zero b h = refl
  digit_set (suc zero) b h = refl
  digit_set (suc (suc c)) b h = absurd (omega arith)

  -- the zero tensor adds nothing
  pub nothing_add : (t : Tensor k) → add nothing t ≡ t
  unfolding nothing add
  nothing_add t = fun_ext (λ u. zeros_plus (t u))
