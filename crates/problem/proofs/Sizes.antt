-- How many bytes a problem has.
use Rattle.std.proofs.Common.{ℕ, ◌^◌, ◌≤◌, arith}
use Rattle.element_text.specs.Hex.{shown_bytes}
use Rattle.problem.specs.Reading.{most_bytes}

pub few_bytes : (k n : ℕ) → n ≤ most_bytes k → n ≤ 2 ^ 24
unfolding shown_bytes
few_bytes k n h = omega arith
