-- How large a table a job over a stretch of so many elements takes.
use Rattle.std.specs.Prelude.{◌≡◌, ℕ, zero, suc, ◌+◌, ◌-◌, ◌*◌, ◌^◌, ◌<◌, ◌≤◌, cond, ◌&&◌, Some, None, Option, nat_le}
use Rattle.level.specs.Element.{width}
use Rattle.level.specs.Bytes.{num_bytes}

-- the elements that a job for points of up to n coordinates asks for
abbrev pub budget : ℕ → ℕ → ℕ
budget k n = n + 6 * 2 ^ (n - k) + 16 * width k + 768 * num_bytes k

-- the largest number of coordinates, from k to `top`, for which so many elements are enough
unfoldable pub largest : ℕ → ℕ → ℕ → Option ℕ
largest k size zero = cond (nat_le k 0 && nat_le (budget k 0) size) (Some 0) None
largest k size (suc n) = cond (nat_le k (suc n) && nat_le (budget k (suc n)) size) (Some (suc n)) (largest k size n)

-- the capacity, in coordinates: none where an element has fewer than 8 or more than 128
unfoldable pub capacity : ℕ → ℕ → Option ℕ
capacity k size = cond (nat_le 3 k && nat_le k 7) (largest k size 24) None

-- none is told as 0
abbrev pub told_capacity : Option ℕ → ℕ
told_capacity None = 0
told_capacity (Some n) = n

-- The capacity is the largest number from k to 24 whose budget is met, and there is none exactly where no such number is or the level is
-- too narrow or too wide.
pub record CapacityIsLargest (k size : ℕ) : Type 0 where
  pub fits : (n : ℕ) → capacity k size ≡ Some n → (3 ≤ k) × (k ≤ 7) × (k ≤ n) × (n ≤ 24) × (budget k n ≤ size)
  pub above : (n m : ℕ) → capacity k size ≡ Some n → n < m → m ≤ 24 → size < budget k m
  pub none : (m : ℕ) → capacity k size ≡ None → 3 ≤ k → k ≤ 7 → k ≤ m → m ≤ 24 → size < budget k m
  pub narrow : k < 3 → capacity k size ≡ None
  pub wide : 7 < k → capacity k size ≡ None
