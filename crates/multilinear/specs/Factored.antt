-- What the equality table of a point obeys: how its entries factor.
use Rattle.std.specs.Prelude.{◌≡◌, ℕ, ◌-◌, ◌*◌, ◌/◌, ◌%◌, ◌^◌, ◌<◌, ◌++◌, length}
use Rattle.level.specs.Element.{Element}
use Rattle.level.specs.Laws.{Arithmetic}
use Rattle.multilinear.specs.Equality.{Point, entry, equality, outer, inner, inner_count}

pub record Factored {k : ℕ} (A : Arithmetic k) : Type 0 where
  -- a start value multiplies every entry
  pub started : (s : Element k) (p : Point k) (i : ℕ) → entry A s p i ≡ A.times s (equality A p i)
  -- an entry looks at no more binary digits of its index than the point has coordinates
  pub reduced : (s : Element k) (p : Point k) (i : ℕ) → entry A s p i ≡ entry A s p (i % 2 ^ length p)
  -- of a point in two parts, an entry is the product of an entry of each
  pub split : (s : Element k) (p q : Point k) (i : ℕ)
      → entry A s (p ++ q) i ≡ A.times (equality A p (i / 2 ^ length q)) (entry A s q i)
  -- the inner factor takes min(14, length p) coordinates from the end, and the outer the others
  pub inner_length : (p : Point k) → length (inner p) ≡ inner_count (length p)
  pub outer_length : (p : Point k) → length (outer p) ≡ length p - inner_count (length p)
  -- an entry is the product of an entry of each
  pub factored : (s : Element k) (p : Point k) (i : ℕ)
      → entry A s p i ≡ A.times (equality A (outer p) (i / 2 ^ length (inner p))) (entry A s (inner p) (i % 2 ^ length (inner p)))
  -- the entry before block b begins is the last one of the block before it
  pub before_block : (p : Point k) (b : ℕ) → 0 < b
      → equality A p (b * 2 ^ length (inner p) - 1) ≡ A.times (equality A (outer p) (b - 1)) (equality A (inner p) (2 ^ length (inner p) - 1))
