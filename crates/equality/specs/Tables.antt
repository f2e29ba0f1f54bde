-- What lent slices hold once equality tables are written into them.
use Rattle.std.specs.Prelude.{◌≡◌, ℕ, ◌+◌, ◌/◌, ◌%◌, ◌^◌, ◌<◌, ◌≤◌, List, length}
use Rattle.level.specs.Element.{Element, plus}
use Rattle.level.specs.Laws.{Arithmetic}
use Rattle.multilinear.specs.Equality.{Point, entry, outer, inner}
use Rattle.multilinear.specs.Lent.{lent}

-- a table of `half` entries widened by one coordinate at a more significant bit: each entry is split into that at bit 0 and that at bit 1,
-- `half` further on, and what lies past them is left alone
pub record Widened {k : ℕ} (A : Arithmetic k) (x : Element k) (half : ℕ) (before after : ℕ → Element k) : Type 0 where
  pub low : (i : ℕ) → i < half → after i ≡ plus (before i) (A.times x (before i))
  pub high : (i : ℕ) → i < half → after (half + i) ≡ A.times x (before i)
  pub rest : (i : ℕ) → half + half ≤ i → after i ≡ before i

-- the slice holds the equality table of a point, begun from a start value
pub record Tabulated {X : Type 0} {k : ℕ} (means : X → Element k) (A : Arithmetic k) (start : Element k) (p : Point k) (xs : List X) : Type 0 where
  pub size : length xs ≡ 2 ^ length p
  pub entries : (i : ℕ) → i < 2 ^ length p → lent means xs i ≡ entry A start p i

-- two slices hold the outer and the inner factor of the equality table of a point, the inner begun from a start value
pub record Factors {X : Type 0} {k : ℕ} (means : X → Element k) (A : Arithmetic k) (start : Element k) (p : Point k) (outers inners : List X) : Type 0 where
  pub outer_table : Tabulated means A A.unit (outer p) outers
  pub inner_table : Tabulated means A start (inner p) inners

-- entry i of a table in blocks of n entries: entry i div n of an outer factor times entry i mod n of an inner one
unfoldable pub factored : {k : ℕ} → Arithmetic k → (ℕ → Element k) → (ℕ → Element k) → ℕ → ℕ → Element k
factored A outers inners n i = A.times (outers (i / n)) (inners (i % n))

-- the entries of a table that two lent slices hold in factors, a block as long as the inner one
abbrev pub entries_of : {X : Type 0} {k : ℕ} → (X → Element k) → Arithmetic k → List X → List X → ℕ → Element k
entries_of means A outers inners = factored A (lent means outers) (lent means inners) (length inners)
