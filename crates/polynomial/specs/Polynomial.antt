-- Bytes as polynomials over the bits, multiplied modulo X^8 + X^4 + X^3 + X + 1, as in FIPS 197.
--
-- A polynomial is a number of which bit i is coefficient i.
use Rattle.std.specs.Prelude.{ℕ, zero, suc, ◌+◌, ◌*◌, ◌/◌, ◌%◌, ◌^◌}
use Rattle.std.specs.Int.Bits.{bit_xor}
use Rattle.level.specs.Element.{cut}
use Rattle.level.specs.Laws.{Arithmetic}

abbrev pub coefficient : ℕ → ℕ → ℕ
coefficient a i = a / 2 ^ i % 2

-- the exclusive-or, over i < n, of coefficient i of a times b shifted up by i
unfoldable pub rows : ℕ → ℕ → ℕ → ℕ
rows zero a b = 0
rows (suc i) a b = bit_xor (rows i a b) (coefficient a i * (b * 2 ^ i))

-- the product of a byte and a polynomial
unfoldable pub product : ℕ → ℕ → ℕ
product a b = rows 8 a b

-- X^8 + X^4 + X^3 + X + 1
abbrev pub modulus : ℕ
modulus = 0x11b

-- long division: where coefficient 8 + i is set, the modulus shifted up by i is taken off, from the highest i < n down
unfoldable pub divided : ℕ → ℕ → ℕ
divided zero a = a
divided (suc i) a = divided i (bit_xor a (coefficient a (8 + i) * (modulus * 2 ^ i)))

-- the product of two bytes, whose degree is below 15, modulo the modulus
unfoldable pub reduced : ℕ → ℕ
reduced a = divided 7 a

unfoldable pub polynomial : Arithmetic 3
polynomial = record {
  times = λ x y. cut 3 (reduced (product x.number y.number));
  unit = cut 3 1;
  root = cut 3 1;
}
