-- Columns of tensors, and tensors with every row or every column scaled.
use Rattle.std.proofs.Common.{◌≡◌, ℕ, zero, suc, ◌%◌, ◌<◌, sym, refl, ap, ◌∙◌, ap₂, arith}
use mathlib.Core.Path.{fun_ext}
use lib.Bits.{bit_xor}
use Rattle.level.specs.Element.{Element, width, coordinate, plus}
use Rattle.level.specs.Laws.{Arithmetic, Laws}
use Rattle.level.proofs.Elements.{plus_zeros, zeros_plus, plus_self}
use Rattle.multilinear.specs.Sums.{sum, at_bit}
use Rattle.multilinear.proofs.Sums.{sum_same, at_bit_plus, times_sum, times_at_bit}
use Rattle.multilinear.proofs.Coordinates.{coordinate_binary, coordinate_plus, coordinate_gather, gather_coordinates, gather_sum, gather_plus, gather_at_bit}
use Rattle.tensor_algebra.specs.Tensor.{Tensor, exterior, add, column, scale_rows, scale_columns}

module _ {k : ℕ} where
  -- the exterior product is linear in each leg
  pub at_bit_xor : (c e : ℕ) (x : Element k) → c < 2 → e < 2 → at_bit (bit_xor c e) x ≡ plus (at_bit c x) (at_bit e x)
  unfolding at_bit
  at_bit_xor zero e x _ _ = sym (zeros_plus (at_bit e x))
  at_bit_xor (suc zero) zero x _ _ = sym (plus_zeros x)
  at_bit_xor (suc zero) (suc zero) x _ _ = sym (plus_self x)
  at_bit_xor (suc zero) (suc (suc e)) x _ h = absurd (omega arith)
  at_bit_xor (suc (suc c)) e x h _ = absurd (omega arith)

  pub at_plus : (a b x : Element k) (u : ℕ) → at_bit (coordinate (plus a b) u) x ≡ plus (at_bit (coordinate a u) x) (at_bit (coordinate b u) x)
  at_plus a b x u =
      ap (λ c. at_bit c x) (coordinate_plus a b u) ∙ at_bit_xor (coordinate a u) (coordinate b u) x (coordinate_binary a u) (coordinate_binary b u)

  pub plus_exterior : (a a' b : Element k) (u : ℕ) → exterior (plus a a') b u ≡ plus (exterior a b u) (exterior a' b u)
  unfolding exterior
  plus_exterior a a' b u = at_plus a a' b u

  pub exterior_plus : (a b b' : Element k) (u : ℕ) → exterior a (plus b b') u ≡ plus (exterior a b u) (exterior a b' u)
  unfolding exterior
  exterior_plus a b b' u = at_bit_plus (coordinate a u) b b'

  -- a column reads the rows below the width
  pub column_same : (t s : Tensor k) → ((u : ℕ) → u < width k → t u ≡ s u) → (v : ℕ) → column t v ≡ column s v
  unfolding column
  column_same t s e v =
      gather_coordinates _ _ (λ u h. ap (λ x. coordinate x v % 2) (e u h) ∙ sym (coordinate_gather k (λ i. coordinate (s i) v) u h))

  -- columns and rows of an exterior product change places
  pub column_exterior : (a b : Element k) (v : ℕ) → column (exterior a b) v ≡ exterior b a v
  unfolding column exterior
  column_exterior a b v = gather_at_bit a b v

  pub column_add : (t s : Tensor k) (v : ℕ) → column (add t s) v ≡ plus (column t v) (column s v)
  unfolding column add
  column_add t s v = gather_plus v t s

  pub column_sum : (n : ℕ) (t : ℕ → Tensor k) (v : ℕ) → column (λ u. sum n (λ i. t i u)) v ≡ sum n (λ i. column (t i) v)
  unfolding column
  column_sum n t v = gather_sum n v t

module _ {k : ℕ} {A : Arithmetic k} (laws : Laws A) (a : Element k) where
  pub scale_rows_exterior : (x y : Element k) (u : ℕ) → scale_rows A a (exterior x y) u ≡ exterior x (A.times a y) u
  unfolding scale_rows exterior
  scale_rows_exterior x y u = times_at_bit laws (coordinate x u) a y

  pub scale_rows_add : (t s : Tensor k) (u : ℕ) → scale_rows A a (add t s) u ≡ plus (scale_rows A a t u) (scale_rows A a s u)
  unfolding scale_rows add
  scale_rows_add t s u = laws.times_plus a (t u) (s u)

  pub scale_rows_sum : (n : ℕ) (t : ℕ → Tensor k) (u : ℕ) → scale_rows A a (λ u. sum n (λ i. t i u)) u ≡ sum n (λ i. scale_rows A a (t i) u)
  unfolding scale_rows
  scale_rows_sum n t u = times_sum laws a n (λ i. t i u)

  -- scaled columns: the columns of the table whose rows are the scaled columns
  turned : (t : Tensor k) (u : ℕ) → scale_columns A a t u ≡ column (λ v. A.times a (column t v)) u
  unfolding scale_columns column
  turned t u = refl

  turned_is : (t r : Tensor k) (u : ℕ) → ((v : ℕ) → A.times a (column t v) ≡ r v) → scale_columns A a t u ≡ column r u
  turned_is t r u e = turned t u ∙ ap (λ x. column x u) (fun_ext e)

  -- they too depend on the rows below the width alone
  pub scale_columns_same : (t s : Tensor k) → ((u : ℕ) → u < width k → t u ≡ s u) → (u : ℕ) → scale_columns A a t u ≡ scale_columns A a s u
  scale_columns_same t s e u = turned_is t _ u (λ v. ap (A.times a) (column_same t s e v)) ∙ sym (turned s u)

  pub scale_columns_exterior : (x y : Element k) (u : ℕ) → scale_columns A a (exterior x y) u ≡ exterior (A.times a x) y u
  unfolding scale_rows
  scale_columns_exterior x y u =
      turned_is (exterior x y) (exterior y (A.times a x)) u (λ v. ap (A.times a) (column_exterior x y v) ∙ scale_rows_exterior y x v)
      ∙ column_exterior y (A.times a x) u

  pub scale_columns_add : (t s : Tensor k) (u : ℕ) → scale_columns A a (add t s) u ≡ plus (scale_columns A a t u) (scale_columns A a s u)
  unfolding add
  scale_columns_add t s u =
      let t' : Tensor k = λ v. A.times a (column t v) in
      let s' : Tensor k = λ v. A.times a (column s v) in
      turned_is (add t s) (add t' s') u (λ v. ap (A.times a) (column_add t s v) ∙ laws.times_plus a (column t v) (column s v))
      ∙ column_add t' s' u ∙ ap₂ plus (sym (turned t u)) (sym (turned s u))

  pub scale_columns_sum : (n : ℕ) (t : ℕ → Tensor k) (u : ℕ)
      → scale_columns A a (λ u. sum n (λ i. t i u)) u ≡ sum n (λ i. scale_columns A a (t i) u)
  scale_columns_sum n t u =
      turned_is _ _ u (λ v. ap (A.times a) (column_sum n t v) ∙ times_sum laws a n (λ i. column (t i) v))
      ∙ column_sum n (λ i v. A.times a (column (t i) v)) u ∙ sum_same n _ _ (λ i _. sym (turned (t i) u))

  -- sums of exterior products, scaled
  pub scale_rows_exteriors : (n : ℕ) (x y : ℕ → Element k) (u : ℕ)
      → scale_rows A a (λ u. sum n (λ i. exterior (x i) (y i) u)) u ≡ sum n (λ i. exterior (x i) (A.times a (y i)) u)
  scale_rows_exteriors n x y u =
      scale_rows_sum n (λ i. exterior (x i) (y i)) u ∙ sum_same n _ _ (λ i _. scale_rows_exterior (x i) (y i) u)

  pub scale_columns_exteriors : (n : ℕ) (x y : ℕ → Element k) (u : ℕ)
      → scale_columns A a (λ u. sum n (λ i. exterior (x i) (y i) u)) u ≡ sum n (λ i. exterior (A.times a (x i)) (y i) u)
  scale_columns_exteriors n x y u =
      scale_columns_sum n (λ i. exterior (x i) (y i)) u ∙ sum_same n _ _ (λ i _. scale_columns_exterior (x i) (y i) u)
