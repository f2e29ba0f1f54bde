-- The product of polynomials is linear in each factor, and so is its reduction.
use Prim.Native.Nat.{ℕ, zero, suc, ◌+◌, ◌*◌, ◌%◌, ◌^◌}
use native.Mathlib.Omega.{arith}
use Rattle.polynomial.specs.Polynomial.{coefficient, rows, product, modulus, divided, reduced}
use Rattle.polynomial.proofs.Linear.{Linear, linear_sum, linear_after, linear_same, linear_zero, linear_mod, linear_shl, linear_bit, linear_row}

rows_left : (n b : ℕ) → Linear (λ a. rows n a b)
unfolding rows
rows_left zero b = linear_zero
rows_left (suc n) b = linear_sum (rows_left n b) (linear_row n (b * 2 ^ n))

rows_right : (n a : ℕ) → Linear (rows n a)
unfolding rows
rows_right zero a = linear_zero
rows_right (suc n) a = linear_sum (rows_right n a) (linear_after (linear_bit (coefficient a n) (omega arith)) (linear_shl n))

divided_linear : (n : ℕ) → Linear (divided n)
unfolding divided
divided_linear zero = linear_same
divided_linear (suc n) = linear_after (divided_linear n) (linear_sum linear_same (linear_row (8 + n) (modulus * 2 ^ n)))

pub product_left : (b : ℕ) → Linear (λ a. product a b)
unfolding product
product_left = rows_left 8

pub product_right : (a : ℕ) → Linear (product a)
unfolding product
product_right = rows_right 8

pub reduced_linear : Linear reduced
unfolding reduced
reduced_linear = divided_linear 7

-- the product of two bytes, as a byte
unfoldable pub multiplied : ℕ → ℕ → ℕ
multiplied a b = reduced (product a b) % 2 ^ 8

pub multiplied_left : (b : ℕ) → Linear (λ a. multiplied a b)
unfolding multiplied
multiplied_left b = linear_after (linear_mod 8) (linear_after reduced_linear (product_left b))

pub multiplied_right : (a : ℕ) → Linear (multiplied a)
unfolding multiplied
multiplied_right a = linear_after (linear_mod 8) (linear_after reduced_linear (product_right a))
