-- Weights with successor tensors, from the settled ones.
use Rattle.std.specs.Prelude.{ℕ, ◌-◌, not, ◌==◌}
use Rattle.level.specs.Element.{Element, plus}
use Rattle.level.specs.Laws.{Arithmetic}
use Rattle.multilinear.specs.Sums.{where_set}
use Rattle.multilinear.specs.Columns.{starts, ends}

-- With s the settled weights and challenge α: s(i), plus α·s(i - 1) unless i starts a column of 2^r entries, plus α²·s(i) if it ends one.
unfoldable pub stepped : {k : ℕ} → Arithmetic k → ℕ → Element k → (ℕ → Element k) → ℕ → Element k
stepped A r α s i =
    plus (plus (s i) (where_set (not (starts r i)) (A.times α (s (i - 1)))))
    (where_set (ends r i) (A.times (A.times α α) (s i)))

-- row i of one column of n settled weights: s(i), plus α·s(i - 1) unless it is the first, plus φ·s(i) if it is the last
unfoldable pub stepped_row : {k : ℕ} → Arithmetic k → ℕ → Element k → Element k → (ℕ → Element k) → ℕ → Element k
stepped_row A n α φ s i = plus (plus (s i) (where_set (not (i == 0)) (A.times α (s (i - 1))))) (where_set (i == n - 1) (A.times φ (s i)))
