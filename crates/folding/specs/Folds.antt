-- Sums of tensors over the blocks of a table.
use Rattle.std.specs.Prelude.{ℕ, ◌+◌, ◌-◌, ◌*◌, not, List, length}
use Rattle.level.specs.Element.{Element, plus}
use Rattle.multilinear.specs.Sums.{sum, where_set}
use Rattle.multilinear.specs.Columns.{starts}
use Rattle.multilinear.specs.Lent.{lent}
use Rattle.tensor_algebra.specs.Tensor.{Tensor, exterior}
use Rattle.ring_switch.specs.Claims.{tensor}

-- a table one place on, zero where a column of 2^r entries starts
abbrev pub shifted : {k : ℕ} → ℕ → (ℕ → Element k) → ℕ → Element k
shifted r e j = where_set (not (starts r j)) (e (j - 1))

-- the sum of left[j] ⊗ right[j] over two lent slices
abbrev pub terms_of : {X : Type 0} {k : ℕ} → (X → Element k) → List X → List X → Tensor k
terms_of means lefts rights = tensor (length lefts) (lent means lefts) (lent means rights)

-- the exterior products of block b of a table t, m entries to a block, against left factors that every block shares
unfoldable pub block : {k : ℕ} → ℕ → (ℕ → Element k) → (ℕ → Element k) → ℕ → Tensor k
block m left t b u = sum m (λ j. exterior (left j) (t (b * m + j)) u)

-- a tensor, with the tensors g(0), g(1), .. g(n - 1) added
unfoldable pub with_all : {k : ℕ} → Tensor k → (ℕ → Tensor k) → ℕ → Tensor k
with_all t g n u = plus (t u) (sum n (λ i. g i u))

-- what enters block b from the block before it, m entries to a block: its first element beside the entry before it, unless that
-- element starts a column of 2^r entries
unfoldable pub entering : {k : ℕ} → ℕ → ℕ → (ℕ → Element k) → (ℕ → Element k) → ℕ → Tensor k
entering r m e t b u = where_set (not (starts r (b * m))) (exterior (e (b * m - 1)) (t (b * m)) u)
