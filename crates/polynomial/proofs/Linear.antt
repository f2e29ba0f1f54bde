-- Functions that are linear over the bits: two of them agree below 2^n where they agree at the powers of two.
use mathlib.Core.Path.{◌≡◌, refl, sym, ap, ap₂, subst, ◌∙◌}
use Prim.Native.Nat.{ℕ, zero, suc, ◌*◌, ◌/◌, ◌%◌, ◌^◌, ◌<◌}
use native.Mathlib.Omega.{arith}
use native.Mathlib.Nat.{mod-lt, zero-mul, one-mul, add-zero}
use native.Mathlib.Numerals.{one-add}
use lib.Pow.{pow_pos, split, shr_lt}
use lib.Bits.{bit_xor, xor_self, xor_zero_r, xor_assoc, xor_comm, xor_shifted, xor_shr, xor_mod, xor_block}
use Rattle.level.proofs.Ands.{bit_cases}

pub record Linear (f : ℕ → ℕ) : Type 0 where
  pub at_sum : (a b : ℕ) → f (bit_xor a b) ≡ bit_xor (f a) (f b)

module _ {f : ℕ → ℕ} (lf : Linear f) where
  pub at_zero : f 0 ≡ 0
  at_zero = lf.at_sum 0 0 ∙ xor_self (f 0)

  module _ {g : ℕ → ℕ} (lg : Linear g) where
    pub linear_sum : Linear (λ a. bit_xor (f a) (g a))
    linear_sum = record { at_sum = λ a b. ap₂ bit_xor (lf.at_sum a b) (lg.at_sum a b) ∙ swap (f a) (f b) (g a) (g b) }
      where
        swap : (a b c d : ℕ) → bit_xor (bit_xor a b) (bit_xor c d) ≡ bit_xor (bit_xor a c) (bit_xor b d)
        swap a b c d =
            xor_assoc a b (bit_xor c d) ∙ ap (bit_xor a) (sym (xor_assoc b c d) ∙ ap (λ n. bit_xor n d) (xor_comm b c) ∙ xor_assoc c b d) ∙ sym (xor_assoc a c (bit_xor b d))

    pub linear_after : Linear (λ a. f (g a))
    linear_after = record { at_sum = λ a b. ap f (lg.at_sum a b) ∙ lf.at_sum (g a) (g b) }

pub linear_same : Linear (λ a. a)
linear_same = record { at_sum = λ a b. refl }

pub linear_zero : Linear (λ a. 0)
linear_zero = record { at_sum = λ a b. refl }

pub linear_mod : (k : ℕ) → Linear (λ a. a % 2 ^ k)
linear_mod k = record { at_sum = λ a b. xor_mod a b k }

pub linear_shl : (k : ℕ) → Linear (λ a. a * 2 ^ k)
linear_shl k = record { at_sum = λ a b. sym (simp add-zero at (xor_block k a b 0 0 (pow_pos k) (pow_pos k))) }

pub linear_shr : (k : ℕ) → Linear (λ a. a / 2 ^ k)
linear_shr k = record { at_sum = λ a b. xor_shr a b k }

-- a bit times a
pub linear_bit : (p : ℕ) → p < 2 → Linear (λ a. p * a)
linear_bit p h = record { at_sum = λ a b. bit_cases (λ q. q * bit_xor a b ≡ bit_xor (q * a) (q * b)) (simp zero-mul) (simp one-mul) p h }

bits_times : (m p q : ℕ) → p < 2 → q < 2 → bit_xor p q * m ≡ bit_xor (p * m) (q * m)
bits_times m p q hp hq =
    bit_cases (λ p. bit_xor p q * m ≡ bit_xor (p * m) (q * m)) (simp zero-mul)
    (bit_cases (λ q. bit_xor 1 q * m ≡ bit_xor (1 * m) (q * m)) (simp (zero-mul, one-mul, xor_zero_r)) (simp (zero-mul, one-mul, xor_self)) q hq) p hp

-- m where a is odd
pub linear_odd : (m : ℕ) → Linear (λ a. a % 2 * m)
linear_odd m = record { at_sum = λ a b. ap (λ n. n * m) (xor_mod a b 1) ∙ bits_times m (a % 2) (b % 2) (omega arith) (omega arith) }

-- m where bit i of a is set
pub linear_row : (i m : ℕ) → Linear (λ a. a / 2 ^ i % 2 * m)
linear_row i m = linear_after (linear_odd m) (linear_shr i)

pub agree : (n : ℕ) {f g : ℕ → ℕ} → Linear f → Linear g → ((i : ℕ) → i < n → f (2 ^ i) ≡ g (2 ^ i)) → (a : ℕ) → a < 2 ^ n → f a ≡ g a
agree zero {f} {g} lf lg e a h =
    let z : a ≡ 0 = omega arith in
    rw z (at_zero lf ∙ sym (at_zero lg))
agree (suc n) {f} {g} lf lg e a h =
    let q = a / 2 ^ n in
    let r = a % 2 ^ n in
    let parts : bit_xor (q * 2 ^ n) r ≡ a = xor_shifted q n r (mod-lt a (pow_pos n)) ∙ split a n in
    let top : f (q * 2 ^ n) ≡ g (q * 2 ^ n) =
    bit_cases (λ b. f (b * 2 ^ n) ≡ g (b * 2 ^ n)) (rw zero-mul (at_zero lf ∙ sym (at_zero lg))) (rw one-mul (e n (omega arith))) q (shr_lt 1 n (rw one-add h)) in
    let rest : f r ≡ g r = agree n lf lg (λ i l. e i (omega arith)) r (mod-lt a (pow_pos n)) in
    ap f (sym parts) ∙ lf.at_sum (q * 2 ^ n) r ∙ ap₂ bit_xor top rest ∙ sym (lg.at_sum (q * 2 ^ n) r) ∙ ap g parts

-- a linear function whose values at the powers of two are below 2^k has every value below it
pub linear_fits : (n k : ℕ) {f : ℕ → ℕ} → Linear f → ((i : ℕ) → i < n → f (2 ^ i) % 2 ^ k ≡ f (2 ^ i)) → (a : ℕ) → a < 2 ^ n → f a < 2 ^ k
linear_fits n k {f} l e a h = subst (λ (m : ℕ). m < 2 ^ k) (agree n (linear_after (linear_mod k) l) l e a h) (mod-lt (f a) (pow_pos k))
