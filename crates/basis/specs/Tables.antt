-- Tables of the sums of weights over every subset of the eight coordinates in a byte, one table for each byte of an element.
use Rattle.std.specs.Prelude.{◌≡◌, ℕ, ◌+◌, ◌*◌, ◌/◌, ◌%◌, ◌^◌, ◌<◌, ◌≤◌}
use Rattle.level.specs.Element.{Element}
use Rattle.level.specs.Bytes.{num_bytes}
use Rattle.level.specs.Laws.{Arithmetic}
use Rattle.multilinear.specs.Sums.{sum}
use Rattle.tensor_algebra.specs.Subsets.{basis, byte, byte_sum}

-- the sums of the weights f: at place 256j + s, the sum for the byte s at byte position j
pub record Tabulated {k : ℕ} (f tables : ℕ → Element k) : Type 0 where
  pub entry : (j s : ℕ) → j < num_bytes k → s < 256 → tables (256 * j + s) ≡ byte_sum f j s

-- the place of the sum for coordinate u alone, which is its weight
abbrev pub lone : ℕ → ℕ
lone u = 256 * (u / 8) + 2 ^ (u % 8)

-- the weights that stand at those places
abbrev pub held : {k : ℕ} → (ℕ → Element k) → ℕ → Element k
held tables u = tables (lone u)

-- the sums of byte position j alone, for the weights that stood at the places of its coordinates
pub record Completed {k : ℕ} (old new : ℕ → Element k) (j : ℕ) : Type 0 where
  pub entry : (s : ℕ) → s < 256 → new (256 * j + s) ≡ byte_sum (held old) j s
  pub before : (i : ℕ) → i < 256 * j → new i ≡ old i
  pub after : (i : ℕ) → 256 * j + 256 ≤ i → new i ≡ old i

-- what tables give for an element: the sum of one entry for each of its bytes
unfoldable pub looked_up : {k : ℕ} → (ℕ → Element k) → Element k → Element k
looked_up {k} tables x = sum (num_bytes k) (λ j. tables (256 * j + byte x j))

-- what tables give for each basis element scaled by a
abbrev pub scaled_weights : {k : ℕ} → Arithmetic k → (ℕ → Element k) → Element k → ℕ → Element k
scaled_weights {k} A tables a u = looked_up tables (A.times a (basis k u))
