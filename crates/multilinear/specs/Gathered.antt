-- The number that a row of binary digits writes.
use Rattle.std.specs.Prelude.{ℕ, zero, suc, ◌+◌, ◌*◌, ◌%◌, ◌^◌, ◌<◌, ◌≤◌}
use Rattle.std.proofs.Common.{arith, mul-le-mul_right, pow-suc}

-- the number whose binary digit v is f(v), for each v below n; a digit is read modulo 2
unfoldable pub binary : ℕ → (ℕ → ℕ) → ℕ
binary zero f = 0
binary (suc n) f = binary n f + f n % 2 * 2 ^ n

digit_le : (b p : ℕ) → b % 2 * p ≤ p
digit_le b p = let h : b % 2 ≤ 1 = omega arith in omega (arith, mul-le-mul_right p h)

pub binary_fits : (n : ℕ) (f : ℕ → ℕ) → binary n f < 2 ^ n
unfolding binary
binary_fits zero f = omega arith
binary_fits (suc n) f = omega (arith, binary_fits n f, digit_le (f n) (2 ^ n), pow-suc 2 n)
