-- The set bits of a byte by their places, the least bit at place 0.
use Rattle.std.specs.Prelude.{◌≡◌, ℕ, ◌/◌, ◌%◌, ◌^◌, ◌<◌, ◌≤◌}

-- The least set place of a byte at or past a place, and 8 where none is left.
pub record NextSet (byte from next : ℕ) : Type 0 where
  pub reached : from ≤ next
  pub within : next ≤ 8
  pub set : next < 8 → byte / 2 ^ next % 2 ≡ 1
  pub clear : (i : ℕ) → from ≤ i → i < next → byte / 2 ^ i % 2 ≡ 0
