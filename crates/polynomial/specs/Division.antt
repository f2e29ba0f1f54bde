-- That reduction is the remainder of a division by the modulus.
use Rattle.std.specs.Prelude.{◌≡◌, ℕ, ◌^◌, ◌<◌}
use Rattle.std.specs.Int.Bits.{bit_xor}
use Rattle.polynomial.specs.Polynomial.{product, modulus, reduced}

-- a is the quotient times the modulus, plus what reduction leaves, which has degree below 8
pub record Divided (a : ℕ) : Type 0 where
  pub quotient : ℕ
  pub quotient_fits : quotient < 2 ^ 7
  pub sum : a ≡ bit_xor (product quotient modulus) (reduced a)
  pub remainder_fits : reduced a < 2 ^ 8

pub record Remainder : Type 0 where
  -- the product of two bytes has degree below 15
  pub product_fits : (a b : ℕ) → a < 2 ^ 8 → b < 2 ^ 8 → product a b < 2 ^ 15
  pub divided : (a : ℕ) → a < 2 ^ 15 → Divided a
