-- What the operations on bits above are in the arithmetic of each byte.
use Rattle.std.specs.Prelude.{◌≡◌, ℕ, ◌^◌, ◌<◌}
use Rattle.level.specs.Element.{cut}
use Rattle.doubling.specs.Doubled.{tower}
use Rattle.polynomial.specs.Polynomial.{polynomial}
use Rattle.byte_levels.specs.TowerSteps.{times_x0, times_x1, times_x2}
use Rattle.byte_levels.specs.PolynomialSteps.{xtime}

-- three doublings over the bit: one and the generator by their bits, and the products by the three generators
pub record TowerByte : Type 0 where
  pub one : (tower 3).unit.number ≡ 0x01
  pub generator : (tower 3).root.number ≡ 0x10
  pub by_x0 : (b : ℕ) → b < 2 ^ 8 → times_x0 b ≡ ((tower 3).times (cut 3 0x02) (cut 3 b)).number
  pub by_x1 : (b : ℕ) → b < 2 ^ 8 → times_x1 b ≡ ((tower 3).times (cut 3 0x04) (cut 3 b)).number
  pub by_x2 : (b : ℕ) → b < 2 ^ 8 → times_x2 b ≡ ((tower 3).times (cut 3 0x10) (cut 3 b)).number

-- polynomials: the product by X
pub record PolynomialByte : Type 0 where
  pub by_x : (b : ℕ) → b < 2 ^ 8 → xtime b ≡ (polynomial.times (cut 3 0x02) (cut 3 b)).number
