-- Products of the polynomial byte by powers of X, on its bits.
use Rattle.std.specs.Prelude.{ℕ, zero, suc, ◌*◌, ◌/◌, ◌%◌, ◌^◌, List, [], ◌∷◌, bit_xor}

-- the product by X, as in FIPS 197: a shift up, and 0x1b taken off where the highest bit was set
abbrev pub xtime : ℕ → ℕ
xtime b = bit_xor (b * 2 ^ 1 % 2 ^ 8) (b / 2 ^ 7 * 0x1b)

-- b times 1, X, X^2 and so on, n of them
abbrev pub multiples : ℕ → ℕ → List ℕ
multiples zero b = []
multiples (suc n) b = b ∷ multiples n (xtime b)
