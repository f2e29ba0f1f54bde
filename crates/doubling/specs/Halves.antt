-- That halves of an element, and two elements joined, have as many coordinates as they should.
use Rattle.std.specs.Prelude.{◌≡◌, ℕ, suc, ◌+◌, ◌*◌, ◌/◌, ◌^◌, ◌<◌}
use Rattle.std.proofs.Common.{ap, arith, add-one, pow-add, shr_lt}
use Rattle.std.proofs.Math.Arith.{digits_lt}
use Rattle.level.specs.Element.{width}

pub width_suc : (k : ℕ) → width (suc k) ≡ width k + width k
width_suc k = omega (arith, pow-add 2 k 1, ap (λ n. 2 ^ n) (add-one k))

pub high_fits : (k n : ℕ) → n < 2 ^ width (suc k) → n / 2 ^ width k < 2 ^ width k
high_fits k n h = shr_lt (width k) (width k) (rw (width_suc k) at h)

pub join_fits : (k a b : ℕ) → a < 2 ^ width k → b < 2 ^ width k → b * 2 ^ width k + a < 2 ^ width (suc k)
join_fits k a b ha hb = rw (width_suc k, pow-add) (digits_lt hb ha)
