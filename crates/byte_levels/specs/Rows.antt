-- Rows picked by the bits of a byte.
use Rattle.std.specs.Prelude.{ℕ, ◌*◌, ◌/◌, ◌%◌, List, [], ◌∷◌, bit_xor}

-- the exclusive-or of the rows at the set bits of a, the first row at the lowest bit
unfoldable pub selected : ℕ → List ℕ → ℕ
selected a [] = 0
selected a (row ∷ rows) = bit_xor (a % 2 * row) (selected (a / 2) rows)
