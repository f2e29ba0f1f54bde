-- Places by columns of 2^r places, numbered through all columns one after the other.
use Rattle.std.specs.Prelude.{ℕ, ◌-◌, ◌%◌, ◌^◌, Bool, ◌==◌}

-- whether place w is the first, and whether it is the last, of its column
abbrev pub starts : ℕ → ℕ → Bool
starts r w = w % 2 ^ r == 0

abbrev pub ends : ℕ → ℕ → Bool
ends r w = w % 2 ^ r == 2 ^ r - 1
