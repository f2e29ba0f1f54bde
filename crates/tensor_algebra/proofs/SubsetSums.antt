-- Sums over an element's set coordinates: linear in the element, and by its bytes.
use Rattle.std.proofs.Common.{◌≡◌, ℕ, zero, suc, ◌+◌, ◌-◌, ◌*◌, ◌/◌, ◌%◌, ◌^◌, ◌<◌, ◌≤◌, max, ⊎_elim, sym, refl, ap, ◌∙◌, mul_comm, zero-add, arith, pow_mono, pow-add}
use native.Mathlib.Nat.{zero-div}
use lib.Bits.{bit_and, bit_xor, xor_shr, xor_mod}
use lib.Count.{count_trailing_zeros}
use Rattle.std.proofs.lemmas.Bool.{cases_lt}
use Rattle.level.specs.Element.{Element, width, coordinate, plus, zeros}
use Rattle.level.specs.Laws.{Arithmetic, Laws}
use Rattle.level.proofs.Digits.{bit_of_byte}
use Rattle.level.proofs.Elements.{zeros_plus}
use Rattle.multilinear.specs.Sums.{sum, at_bit}
use Rattle.multilinear.proofs.Sums.{sum_same, sum_none, sum_plus, sum_rows, times_sum, times_at_bit}
use Rattle.multilinear.proofs.Coordinates.{coordinate_zeros, coordinate_past}
use Rattle.multilinear.proofs.Windows.{sum_single, sum_window}
use Rattle.tensor_algebra.specs.Tensor.{subset_sum}
use Rattle.tensor_algebra.specs.Subsets.{basis, byte, byte_sum, SubsetSumsAreLinear, SubsetSumsByBytes}
use Rattle.tensor_algebra.proofs.Columns.{at_plus, at_bit_xor}
use Rattle.tensor_algebra.proofs.Basis.{at_power, at_basis, by_basis}
use Rattle.tensor_algebra.proofs.LowestBit.{lowest_set, lowest_below}

-- eight coordinates or more are whole bytes
pub eights : (k : ℕ) → 3 ≤ k → width k ≡ width k / 8 * 8
eights k h =
    let e : k ≡ (k - 3) + 3 = omega arith in
    let p : 2 ^ k ≡ 2 ^ (k - 3) * 8 = ap (λ n. 2 ^ n) e ∙ pow-add 2 (k - 3) 3 in
    omega arith

one_byte : (k : ℕ) → k < 3 → max 1 (width k / 8) ≡ 1
one_byte k h = let l : k ≤ 2 = omega arith in let m : 2 ^ k ≤ 4 = pow_mono l in omega arith

some_bytes : (k : ℕ) → 3 ≤ k → max 1 (width k / 8) ≡ width k / 8
some_bytes k h = let m : 2 ^ 3 ≤ 2 ^ k = pow_mono h in omega arith

module _ {k : ℕ} (f : ℕ → Element k) where
  pub subset_zeros : subset_sum f (zeros k) ≡ zeros k
  unfolding subset_sum at_bit
  subset_zeros = sum_none (width k) _ (λ u _. ap (λ n. at_bit n (f u)) (coordinate_zeros k u))

  pub subset_plus : (x y : Element k) → subset_sum f (plus x y) ≡ plus (subset_sum f x) (subset_sum f y)
  unfolding subset_sum
  subset_plus x y = sum_same (width k) _ _ (λ u _. at_plus x y (f u) u) ∙ sum_plus (width k) _ _

  pub subset_sums : (n : ℕ) (x : ℕ → Element k) → subset_sum f (sum n x) ≡ sum n (λ i. subset_sum f (x i))
  unfolding sum
  subset_sums zero x = subset_zeros
  subset_sums (suc n) x = subset_plus (sum n x) (x n) ∙ ap (λ s. plus s (subset_sum f (x n))) (subset_sums n x)

  pub subset_at_bit : (c : ℕ) (x : Element k) → subset_sum f (at_bit c x) ≡ at_bit c (subset_sum f x)
  unfolding at_bit
  subset_at_bit zero x = subset_zeros
  subset_at_bit (suc c) x = refl

  pub subset_basis : (u : ℕ) → u < width k → subset_sum f (basis k u) ≡ f u
  unfolding subset_sum
  subset_basis u h = sum_same (width k) _ _ (λ v _. at_basis u v (f v) h) ∙ sum_single (width k) u h f

  pub subset_times : {A : Arithmetic k} → Laws A → (a x : Element k)
      → subset_sum f (A.times a x) ≡ subset_sum (λ u. subset_sum f (A.times a (basis k u))) x
  unfolding subset_sum
  subset_times {A} laws a x =
      ap (λ y. subset_sum f (A.times a y)) (sym (by_basis x))
      ∙ ap (subset_sum f) (times_sum laws a (width k) (λ u. at_bit (coordinate x u) (basis k u)))
      ∙ subset_sums (width k) (λ u. A.times a (at_bit (coordinate x u) (basis k u)))
      ∙ sum_same (width k) _ _ (λ u _.
      ap (subset_sum f) (times_at_bit laws (coordinate x u) a (basis k u)) ∙ subset_at_bit (coordinate x u) (A.times a (basis k u)))

  whole_bytes : 3 ≤ k → (x : Element k) → subset_sum f x ≡ sum (width k / 8) (λ j. byte_sum f j (byte x j))
  unfolding subset_sum byte_sum
  whole_bytes h x =
      ap (λ n. sum n (λ u. at_bit (coordinate x u) (f u))) (eights k h)
      ∙ sum_rows (width k / 8) 8 (λ u. at_bit (coordinate x u) (f u))
      ∙ sum_same (width k / 8) _ _ (λ j _. sum_same 8 _ _ (λ b l.
      ap (λ n. at_bit (coordinate x (n + b)) (f (n + b))) (mul_comm j 8)
      ∙ ap (λ c. at_bit c (f (8 * j + b))) (sym (bit_of_byte x.number (8 * j) b l))))

  -- less than a byte: no coordinate is set past the width
  narrow_byte : (x : Element k) → k < 3 → subset_sum f x ≡ byte_sum f 0 (byte x 0)
  unfolding byte_sum subset_sum at_bit
  narrow_byte x h =
      let l : k ≤ 2 = omega arith in
      let w : 2 ^ k ≤ 4 = pow_mono l in
      let v : 2 ^ width k ≤ 16 = pow_mono w in
      let term : ℕ → Element k = λ u. at_bit (coordinate x u) (f u) in
      let b : byte x 0 ≡ x.number = omega (arith, x.fits) in
      sym (ap (byte_sum f 0) b ∙ sum_same 8 _ term (λ u _. ap (λ i. at_bit (coordinate x u) (f i)) (zero-add u))
      ∙ sum_window 8 0 (width k) term (omega arith) (λ u _ out. ap (λ c. at_bit c (f u)) (coordinate_past x u (⊎_elim (λ z. omega arith) (λ z. omega arith) out)))
      ∙ sum_same (width k) _ term (λ u _. ap term (zero-add u)))

  pub subset_bytes : (x : Element k) → subset_sum f x ≡ sum (max 1 (width k / 8)) (λ j. byte_sum f j (byte x j))
  unfolding sum
  subset_bytes x =
      let all : ℕ → Element k = λ n. sum n (λ j. byte_sum f j (byte x j)) in
      ⊎_elim (λ h. narrow_byte x h ∙ sym (ap all (one_byte k h) ∙ zeros_plus _)) (λ h. whole_bytes h x ∙ sym (ap all (some_bytes k h))) (cases_lt k 3)

  pub byte_zero : (j : ℕ) → byte_sum f j 0 ≡ zeros k
  unfolding byte_sum at_bit
  byte_zero j = sum_none 8 _ (λ b _. ap (λ n. at_bit (n % 2) (f (8 * j + b))) (zero-div (2 ^ b)))

  -- a byte and one more bit
  byte_xor : (j s t : ℕ) → t < 8 → byte_sum f j (bit_xor s (2 ^ t)) ≡ plus (byte_sum f j s) (f (8 * j + t))
  unfolding byte_sum
  byte_xor j s t h =
      sum_same 8 _ _ (λ b _.
      ap (λ n. at_bit n (f (8 * j + b))) (ap (λ n. n % 2) (xor_shr s (2 ^ t) b) ∙ xor_mod (s / 2 ^ b) (2 ^ t / 2 ^ b) 1)
      ∙ at_bit_xor (s / 2 ^ b % 2) (2 ^ t / 2 ^ b % 2) (f (8 * j + b)) (omega arith) (omega arith)
      ∙ ap (plus (at_bit (s / 2 ^ b % 2) (f (8 * j + b)))) (at_power t b (f (8 * j + b))))
      ∙ sum_plus 8 _ _ ∙ ap (plus (byte_sum f j s)) (sum_single 8 t h (λ b. f (8 * j + b)))

  pub byte_extends : (j s w : ℕ) → 0 < s → s < 256 → 8 ≤ w
      → byte_sum f j s ≡ plus (byte_sum f j (bit_and s (s - 1))) (f (8 * j + count_trailing_zeros w s))
  byte_extends j s w p h l =
      let m : 256 ≤ 2 ^ w = pow_mono l in
      ap (byte_sum f j) (sym (lowest_set w s p (omega arith)))
      ∙ byte_xor j (bit_and s (s - 1)) (count_trailing_zeros w s) (lowest_below 8 w s p h (omega arith))

pub subset_sums_are_linear : SubsetSumsAreLinear
subset_sums_are_linear = record {
  of_zeros = subset_zeros;
  of_plus = subset_plus;
  of_basis = subset_basis;
  of_times = λ laws f. subset_times f laws;
}

pub subset_sums_by_bytes : SubsetSumsByBytes
subset_sums_by_bytes = record {
  by_bytes = subset_bytes;
  of_zero = byte_zero;
  extends = byte_extends;
}
