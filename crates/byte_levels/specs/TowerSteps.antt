-- Products of the tower byte on its bits, by x0 = 0x02, x1 = 0x04 and x2 = 0x10, the generators of the first, second and third
-- doubling. A doubling of generator x has x·(l, h) = (h, l + g·h), with g the generator below and 1 below the first.
use Rattle.std.specs.Prelude.{ℕ, ◌*◌, ◌/◌, ◌%◌, ◌^◌, List, [], ◌∷◌, bit_and, bit_xor}

-- in each pair of bits: (h, l + h)
abbrev pub times_x0 : ℕ → ℕ
times_x0 b = bit_xor (bit_xor (bit_and (b / 2 ^ 1) 0x55) (bit_and (b * 2 ^ 1 % 2 ^ 8) 0xaa)) (bit_and b 0xaa)

-- in each pair of two bits: (h, l + x0·h)
abbrev pub times_x1 : ℕ → ℕ
times_x1 b = bit_xor (bit_xor (bit_and (b / 2 ^ 2) 0x33) (bit_and (b * 2 ^ 2 % 2 ^ 8) 0xcc)) (times_x0 (bit_and b 0xcc))

-- in the pair of four bits: (h, l + x1·h)
abbrev pub times_x2 : ℕ → ℕ
times_x2 b = bit_xor (bit_xor (b / 2 ^ 4) (b * 2 ^ 4 % 2 ^ 8)) (times_x1 (bit_and b 0xf0))

-- b times 1, x0, x1 and x0·x1, the elements that one of the low four bits writes
abbrev pub low_multiples : ℕ → List ℕ
low_multiples b = b ∷ times_x0 b ∷ times_x1 b ∷ times_x0 (times_x1 b) ∷ []
