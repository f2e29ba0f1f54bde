-- Reduction is the remainder: the quotient is linear too, so the division holds where it holds of the powers of X below 15.
use mathlib.Core.Path.{◌≡◌}
use Prim.Native.Nat.{ℕ, zero, suc, ◌+◌, ◌*◌, ◌%◌, ◌^◌, ◌<◌}
use lib.Bits.{bit_xor}
use Rattle.polynomial.specs.Polynomial.{coefficient, product, rows, modulus, divided, reduced}
use Rattle.polynomial.specs.Division.{Remainder}
use Rattle.polynomial.proofs.Tests.{equal_below, equal_pairs}
use Rattle.polynomial.proofs.Linear.{Linear, agree, linear_fits, linear_after, linear_sum, linear_row, linear_mod, linear_same, linear_zero}
use Rattle.polynomial.proofs.Products.{product_left, product_right, reduced_linear}

-- X^i for each multiple of the modulus that long division takes off
quotient : ℕ → ℕ → ℕ
quotient zero a = 0
quotient (suc i) a = bit_xor (coefficient a (8 + i) * 2 ^ i) (quotient i (bit_xor a (coefficient a (8 + i) * (modulus * 2 ^ i))))

quotient_linear : (n : ℕ) → Linear (quotient n)
unfolding quotient
quotient_linear zero = linear_zero
quotient_linear (suc n) =
    linear_sum (linear_row (8 + n) (2 ^ n)) (linear_after (quotient_linear n) (linear_sum linear_same (linear_row (8 + n) (modulus * 2 ^ n))))

product_powers : (i : ℕ) → i < 8 → (j : ℕ) → j < 8 → product (2 ^ i) (2 ^ j) % 2 ^ 15 ≡ product (2 ^ i) (2 ^ j)
unfolding product rows
product_powers = equal_pairs 8 _ _ tt

quotient_powers : (i : ℕ) → i < 15 → quotient 7 (2 ^ i) % 2 ^ 7 ≡ quotient 7 (2 ^ i)
unfolding quotient
quotient_powers = equal_below 15 _ _ tt

remainder_powers : (i : ℕ) → i < 15 → reduced (2 ^ i) % 2 ^ 8 ≡ reduced (2 ^ i)
unfolding reduced divided
remainder_powers = equal_below 15 _ _ tt

sum_powers : (i : ℕ) → i < 15 → 2 ^ i ≡ bit_xor (product (quotient 7 (2 ^ i)) modulus) (reduced (2 ^ i))
unfolding quotient product rows reduced divided
sum_powers = equal_below 15 _ _ tt

pub remainder : Remainder
remainder = record {
  product_fits = λ a b ha hb.
      linear_fits 8 15 (product_left b) (λ i hi.
      agree 8 (linear_after (linear_mod 15) (product_right (2 ^ i))) (product_right (2 ^ i)) (product_powers i hi) b hb) a ha;
  divided = λ a h. record {
    quotient = quotient 7 a;
    quotient_fits = linear_fits 15 7 (quotient_linear 7) quotient_powers a h;
    sum = agree 15 linear_same (linear_sum (linear_after (product_left modulus) (quotient_linear 7)) reduced_linear) sum_powers a h;
    remainder_fits = linear_fits 15 8 reduced_linear remainder_powers a h;
  };
}
