-- Finite sums of elements, and terms that are left out of a sum.
use Rattle.std.specs.Prelude.{ℕ, zero, suc, Bool, true, false}
use Rattle.level.specs.Element.{Element, plus, zeros}

-- f(0) + f(1) + .. + f(n - 1)
unfoldable pub sum : {k : ℕ} → ℕ → (ℕ → Element k) → Element k
sum {k} zero f = zeros k
sum (suc n) f = plus (sum n f) (f n)

-- x where the test holds, else zero
unfoldable pub where_set : {k : ℕ} → Bool → Element k → Element k
where_set true x = x
where_set {k} false x = zeros k

-- x where the binary digit is 1, else zero
unfoldable pub at_bit : {k : ℕ} → ℕ → Element k → Element k
at_bit {k} zero x = zeros k
at_bit (suc b) x = x
