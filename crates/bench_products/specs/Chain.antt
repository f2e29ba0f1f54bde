-- A chain of products by one element.
use Rattle.std.specs.Prelude.{ℕ, zero, suc, ◌%◌, ◌^◌}
use Rattle.level.specs.Element.{Element, cut}
use Rattle.level.specs.Laws.{Arithmetic}

-- x times y, n times over
unfoldable pub chained : {k : ℕ} → Arithmetic k → ℕ → Element k → Element k → Element k
chained A zero x y = x
chained A (suc n) x y = A.times (chained A n x y) y

-- the coordinates below 64 of the chain from elements with given coordinates below 64
unfoldable pub low_chained : {k : ℕ} → Arithmetic k → ℕ → ℕ → ℕ → ℕ
low_chained {k} A n x y = (chained A n (cut k x) (cut k y)).number % 2 ^ 64
