-- The tensors of an opened table, and the claims that they answer.
use Rattle.std.specs.Prelude.{ℕ, ◌-◌, Bool, true, false, not, ◌==◌, nat_lt}
use Rattle.level.specs.Element.{Element, width, plus}
use Rattle.level.specs.Laws.{Arithmetic}
use Rattle.multilinear.specs.Sums.{sum, where_set}
use Rattle.multilinear.specs.Columns.{starts, ends}
use Rattle.tensor_algebra.specs.Tensor.{Tensor, exterior, column, by_columns}

-- With e an equality table and t packed elements, of n entries each, the sum of e(w) ⊗ t(w).
unfoldable pub tensor : {k : ℕ} → ℕ → (ℕ → Element k) → (ℕ → Element k) → Tensor k
tensor n e t u = sum n (λ w. exterior (e w) (t w) u)

-- each packed element beside the entry before it: e(w - 1) ⊗ t(w), summed where w is not the first of its column of 2^r entries
unfoldable pub carry : {k : ℕ} → ℕ → ℕ → (ℕ → Element k) → (ℕ → Element k) → Tensor k
carry r n e t u = sum n (λ w. where_set (not (starts r w)) (exterior (e (w - 1)) (t w) u))

-- the sum of e(w) ⊗ t(w) over the w that end a column of 2^r entries
unfoldable pub last : {k : ℕ} → ℕ → ℕ → (ℕ → Element k) → (ℕ → Element k) → Tensor k
last r n e t u = sum n (λ w. where_set (ends r w) (exterior (e w) (t w) u))

-- The claims read a tensor's columns against f, the equality table of the absorbed coordinates.

-- the incoming claim: column v times f(v)
unfoldable pub incoming : {k : ℕ} → Arithmetic k → (ℕ → Element k) → Tensor k → Element k
incoming A f t = by_columns A f t

-- the weight of column v in the successor claim, where rows of 2^q bits lie inside an element: that of the bit before it in its row, and
-- its own again where it is the last of its row
unfoldable pub inside : {k : ℕ} → (ℕ → Element k) → ℕ → ℕ → Element k
inside f q v = plus (where_set (not (starts q v)) (f (v - 1))) (where_set (ends q v) (f v))

-- the same where rows are longer than an element: that of the bit before it, and none for bit 0
unfoldable pub across : {k : ℕ} → (ℕ → Element k) → ℕ → Element k
across f v = where_set (not (v == 0)) (f (v - 1))

-- the successor claim of a view with q row variables, from the tensor, the carry and the last
unfoldable pub successor_claim : {k : ℕ} → Arithmetic k → (ℕ → Element k) → ℕ → Tensor k → Tensor k → Tensor k → Element k
successor_claim {k} A f q t c l =
    within (nat_lt k q)
  where
    within : Bool → Element k
    within false = by_columns A (inside f q) t
    within true = plus (by_columns A (across f) t) (A.times (f (width k - 1)) (plus (column c 0) (column l (width k - 1))))
