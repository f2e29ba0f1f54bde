-- The equality table of a point, and the multilinear value of a table at a point.
use Rattle.std.specs.Prelude.{ℕ, zero, suc, ◌-◌, ◌/◌, ◌%◌, ◌^◌, min, List, [], ◌∷◌, length, take, drop}
use Rattle.level.specs.Element.{Element, plus}
use Rattle.level.specs.Laws.{Arithmetic}
use Rattle.multilinear.specs.Sums.{sum}

-- a point: its coordinates, the first at the most significant bit of an index
abbrev pub Point : ℕ → Type 0
Point k = List (Element k)

-- the factor of a coordinate at one bit of an index: the coordinate where the bit is 1, one plus it where the bit is 0
unfoldable pub factor : {k : ℕ} → Arithmetic k → Element k → ℕ → Element k
factor A x zero = plus A.unit x
factor A x (suc b) = x

-- entry i of the equality table of a point, begun from a start value: the start value times the factor of every coordinate
unfoldable pub entry : {k : ℕ} → Arithmetic k → Element k → Point k → ℕ → Element k
entry A start [] i = start
entry A start (x ∷ p) i = A.times (factor A x (i / 2 ^ length p % 2)) (entry A start p i)

-- entry i of the equality table of a point, begun from one
abbrev pub equality : {k : ℕ} → Arithmetic k → Point k → ℕ → Element k
equality A p = entry A A.unit p

-- the multilinear value at a point of a table with an entry for each index below 2^(length of the point)
unfoldable pub multilinear : {k : ℕ} → Arithmetic k → (ℕ → Element k) → Point k → Element k
multilinear A table p = sum (2 ^ length p) (λ i. A.times (table i) (equality A p i))

-- how many coordinates, from the end, the inner factor of a factored table takes
abbrev pub inner_count : ℕ → ℕ
inner_count l = min 14 l

abbrev pub outer : {k : ℕ} → Point k → Point k
outer p = take (length p - inner_count (length p)) p

abbrev pub inner : {k : ℕ} → Point k → Point k
inner p = drop (length p - inner_count (length p)) p
