-- Sums of weights over an element's set coordinates: through its parts, and a byte at a time.
use Rattle.std.specs.Prelude.{◌≡◌, ℕ, ◌+◌, ◌-◌, ◌*◌, ◌/◌, ◌%◌, ◌^◌, ◌<◌, ◌≤◌, max, bit_and}
use Rattle.std.specs.Int.Count.{count_trailing_zeros}
use Rattle.level.specs.Element.{Element, width, cut, plus, zeros}
use Rattle.level.specs.Laws.{Arithmetic, Laws}
use Rattle.multilinear.specs.Sums.{sum, at_bit}
use Rattle.tensor_algebra.specs.Tensor.{subset_sum}

-- the element of which coordinate u alone is set
unfoldable pub basis : (k : ℕ) → ℕ → Element k
basis k u = cut k (2 ^ u)

-- byte j of an element's coordinates: bit b of it is coordinate 8j + b
abbrev pub byte : {k : ℕ} → Element k → ℕ → ℕ
byte x j = x.number / 2 ^ (8 * j) % 256

-- the sum of the weights f(8j + b) over the set bits b of the byte s
unfoldable pub byte_sum : {k : ℕ} → (ℕ → Element k) → ℕ → ℕ → Element k
byte_sum f j s = sum 8 (λ b. at_bit (s / 2 ^ b % 2) (f (8 * j + b)))

-- The sum over an element's set coordinates is linear in the element. So a scaled element has the weights of the scaled basis.
pub record SubsetSumsAreLinear : Type 0 where
  pub of_zeros : {k : ℕ} (f : ℕ → Element k) → subset_sum f (zeros k) ≡ zeros k
  pub of_plus : {k : ℕ} (f : ℕ → Element k) (x y : Element k) → subset_sum f (plus x y) ≡ plus (subset_sum f x) (subset_sum f y)
  pub of_basis : {k : ℕ} (f : ℕ → Element k) (u : ℕ) → u < width k → subset_sum f (basis k u) ≡ f u
  pub of_times : {k : ℕ} {A : Arithmetic k} → Laws A → (f : ℕ → Element k) (a x : Element k)
      → subset_sum f (A.times a x) ≡ subset_sum (λ u. subset_sum f (A.times a (basis k u))) x

-- It is a sum over the element's bytes, of which a narrow element has one. The sum for a byte extends that for the byte without its lowest set bit; the width w of the
-- number whose trailing zeros are counted does not matter where the byte fits it.
pub record SubsetSumsByBytes : Type 0 where
  pub by_bytes : {k : ℕ} (f : ℕ → Element k) (x : Element k) → subset_sum f x ≡ sum (max 1 (width k / 8)) (λ j. byte_sum f j (byte x j))
  pub of_zero : {k : ℕ} (f : ℕ → Element k) (j : ℕ) → byte_sum f j 0 ≡ zeros k
  pub extends : {k : ℕ} (f : ℕ → Element k) (j s w : ℕ) → 0 < s → s < 256 → 8 ≤ w
      → byte_sum f j s ≡ plus (byte_sum f j (bit_and s (s - 1))) (f (8 * j + count_trailing_zeros w s))
