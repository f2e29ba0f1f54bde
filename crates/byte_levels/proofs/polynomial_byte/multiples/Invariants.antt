use Rattle.std.proofs.Common.{◌≡◌, ◌-◌, ◌++◌, take}
use Rattle.byte_levels.specs.PolynomialSteps.{multiples}
use Rattle.byte_levels.proofs.polynomial_byte.multiples.Given as goal

-- the products so far, and those of the next one
abbrev pub invariant-loop-product : goal.invariant-loop-product
invariant-loop-product l = multiples 8 l.b ≡ take l.product-index l.product-items ++ multiples (8 - l.product-index) l.next
