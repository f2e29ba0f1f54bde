-- Batching: the weights of the packed elements of a slot, the initial sum and the closing value.
--
-- f are the batching weights of an element's coordinates, the equality table of the batching point. A challenge α is given where successor
-- tensors are batched, over columns of 2^r entries.
use Rattle.std.specs.Prelude.{ℕ, ◌-◌, not, length, take, drop, Some, None, Option}
use Rattle.level.specs.Element.{Element, plus}
use Rattle.level.specs.Laws.{Arithmetic}
use Rattle.multilinear.specs.Sums.{where_set}
use Rattle.multilinear.specs.Columns.{starts, ends}
use Rattle.multilinear.specs.Equality.{Point}
use Rattle.tensor_algebra.specs.Tensor.{Tensor, exterior, product, subset_sum, batch_rows, equality_element, successor_element, equality_factors}

-- s(i): the batching weights of the set coordinates of entry i of a table e
unfoldable pub settled : {k : ℕ} → (ℕ → Element k) → (ℕ → Element k) → ℕ → Element k
settled f e i = subset_sum f (e i)

-- The weight of entry i: without a challenge s(i), else s(i) + [i starts no column]·α·s(i - 1) + [i ends a column]·α²·s(i).
unfoldable pub weight : {k : ℕ} → Arithmetic k → (ℕ → Element k) → (ℕ → Element k) → ℕ → Option (Element k) → ℕ → Element k
weight A f e r None i = settled f e i
weight A f e r (Some α) i =
    plus (plus (settled f e i) (where_set (not (starts r i)) (A.times α (settled f e (i - 1)))))
    (where_set (ends r i) (A.times (A.times α α) (settled f e i)))

-- α·rows(carry) + α²·rows(last)
unfoldable pub successor_rows : {k : ℕ} → Arithmetic k → (ℕ → Element k) → Element k → Tensor k → Tensor k → Element k
successor_rows A f α c l = A.times α (plus (batch_rows A f c) (A.times α (batch_rows A f l)))

-- the initial sum: the batched rows of the tensor, and of carry and last where there is a challenge
unfoldable pub initial_sum : {k : ℕ} → Arithmetic k → (ℕ → Element k) → Option (Element k) → Tensor k → Tensor k → Tensor k → Element k
initial_sum A f None t c l = batch_rows A f t
initial_sum A f (Some α) t c l = plus (batch_rows A f t) (successor_rows A f α c l)

-- the carry and last elements of a closing point: over the last r coordinates the successor element, and the product of the
-- coordinates on both legs; over the others the equality factors
unfoldable pub carry_element : {k : ℕ} → Arithmetic k → ℕ → Point k → Point k → Tensor k
carry_element A r slot z =
    let n = length slot - r in
    equality_factors A (take n slot) (take n z) (successor_element A (drop n slot) (drop n z))

unfoldable pub last_element : {k : ℕ} → Arithmetic k → ℕ → Point k → Point k → Tensor k
last_element A r slot z =
    let n = length slot - r in
    equality_factors A (take n slot) (take n z) (exterior (product A (drop n slot)) (product A (drop n z)))

-- the closing value at a closing point z, which has a coordinate for each of the slot's
unfoldable pub closing_value : {k : ℕ} → Arithmetic k → (ℕ → Element k) → Point k → ℕ → Option (Element k) → Point k → Element k
closing_value A f slot r None z = batch_rows A f (equality_element A slot z)
closing_value A f slot r (Some α) z =
    plus (batch_rows A f (equality_element A slot z)) (successor_rows A f α (carry_element A r slot z) (last_element A r slot z))
