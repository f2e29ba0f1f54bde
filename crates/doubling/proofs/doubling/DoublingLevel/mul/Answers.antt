use mathlib.Core.Path.{ap₂, ◌∙◌}
use Rattle.doubling.specs.Doubled.{join}
use Rattle.doubling.proofs.Products.{by_sums}
use Rattle.doubling.proofs.doubling.DoublingLevel.mul.Goals as goal

pub returns : goal.returns
returns g c = ap₂ join c.product_halves.ensures.low c.product_halves.ensures.high ∙ by_sums g.met.L.Level.ring _ _ _ _
