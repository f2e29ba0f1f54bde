-- The tensor algebra of a level: square tables of bits, with an element for each row and an element for each column.
use Rattle.std.specs.Prelude.{ℕ, [], ◌∷◌, map}
use Rattle.level.specs.Element.{Element, width, coordinate, plus, zeros}
use Rattle.level.specs.Laws.{Arithmetic}
use Rattle.multilinear.specs.Sums.{sum, at_bit}
use Rattle.multilinear.specs.Equality.{Point}
use Rattle.multilinear.specs.Cells.{gather}

-- a tensor: its d rows, row u at u below d = 2^k
abbrev pub Tensor : ℕ → Type 0
Tensor k = ℕ → Element k

-- the zero tensor
unfoldable pub nothing : {k : ℕ} → Tensor k
nothing {k} u = zeros k

-- a ⊗ b: its rows are b at the set coordinates of a, and zero at the others
unfoldable pub exterior : {k : ℕ} → Element k → Element k → Tensor k
exterior a b u = at_bit (coordinate a u) b

-- the sum, row by row
unfoldable pub add : {k : ℕ} → Tensor k → Tensor k → Tensor k
add t s u = plus (t u) (s u)

-- column v: rows and columns exchanged, coordinate v of each row in turn
unfoldable pub column : {k : ℕ} → Tensor k → ℕ → Element k
column {k} t v = gather k (λ u. coordinate (t u) v)

-- one of the algebra: one ⊗ one
unfoldable pub one : {k : ℕ} → Arithmetic k → Tensor k
one A = exterior A.unit A.unit

-- an element alone, on the first leg and on the second
unfoldable pub first_leg : {k : ℕ} → Arithmetic k → Element k → Tensor k
first_leg A x = exterior x A.unit

unfoldable pub second_leg : {k : ℕ} → Arithmetic k → Element k → Tensor k
second_leg A y = exterior A.unit y

-- every row times b, which acts on the second legs
unfoldable pub scale_rows : {k : ℕ} → Arithmetic k → Element k → Tensor k → Tensor k
scale_rows A b t u = A.times b (t u)

-- every column times a, which acts on the first legs
unfoldable pub scale_columns : {k : ℕ} → Arithmetic k → Element k → Tensor k → Tensor k
scale_columns {k} A a t u = gather k (λ v. coordinate (A.times a (column t v)) u)

-- the equality factor of a and b: the tensor, and beside it itself with its columns times a, and with its rows times b
unfoldable pub equality_factor : {k : ℕ} → Arithmetic k → Element k → Element k → Tensor k → Tensor k
equality_factor A a b t = add (add t (scale_columns A a t)) (scale_rows A b t)

-- the product of all coordinates of a point
unfoldable pub product : {k : ℕ} → Arithmetic k → Point k → Element k
product A [] = A.unit
product A (x ∷ p) = A.times x (product A p)

-- The product over two points' coordinates of a ⊗ b + (1 + a) ⊗ (1 + b), from one: the equality element.
unfoldable pub equality_element : {k : ℕ} → Arithmetic k → Point k → Point k → Tensor k
equality_element A [] q = one A
equality_element A (x ∷ p) [] = one A
equality_element A (x ∷ p) (y ∷ q) =
    let t = equality_element A p q in
    add (scale_rows A (plus A.unit y) (scale_columns A (plus A.unit x) t)) (scale_rows A y (scale_columns A x t))

-- The successor element: folded from the last coordinate to the first, by the equality factor of the coordinate, and the carry
-- that settles there, which has passed each later coordinate of the first point and of one plus the second.
unfoldable pub successor_element : {k : ℕ} → Arithmetic k → Point k → Point k → Tensor k
successor_element A [] q = nothing
successor_element A (x ∷ p) [] = nothing
successor_element A (x ∷ p) (y ∷ q) =
    add (equality_factor A x y (successor_element A p q))
    (exterior (A.times (product A p) (plus A.unit x)) (A.times (product A (map (plus A.unit) q)) y))

-- the equality factors of two points' coordinates, one after the other
unfoldable pub equality_factors : {k : ℕ} → Arithmetic k → Point k → Point k → Tensor k → Tensor k
equality_factors A [] q t = t
equality_factors A (x ∷ p) [] t = t
equality_factors A (x ∷ p) (y ∷ q) t = equality_factors A p q (equality_factor A x y t)

-- the sum of the weights of an element's set coordinates, weight f(u) for coordinate u
unfoldable pub subset_sum : {k : ℕ} → (ℕ → Element k) → Element k → Element k
subset_sum {k} f x = sum (width k) (λ u. at_bit (coordinate x u) (f u))

-- the rows of a tensor, each times a weight
unfoldable pub batch_rows : {k : ℕ} → Arithmetic k → (ℕ → Element k) → Tensor k → Element k
batch_rows {k} A f t = sum (width k) (λ u. A.times (f u) (t u))

-- the columns of a tensor, each times a weight
unfoldable pub by_columns : {k : ℕ} → Arithmetic k → (ℕ → Element k) → Tensor k → Element k
by_columns {k} A f t = sum (width k) (λ v. A.times (column t v) (f v))
