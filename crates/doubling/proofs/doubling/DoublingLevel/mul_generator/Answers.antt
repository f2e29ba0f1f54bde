use mathlib.Core.Path.{ap₂, ◌∙◌}
use Rattle.doubling.specs.Doubled.{join}
use Rattle.doubling.proofs.Products.{by_generator}
use Rattle.doubling.proofs.doubling.DoublingLevel.mul_generator.Goals as goal

pub returns : goal.returns
returns g c = ap₂ join c.generator_product_halves.ensures.low c.generator_product_halves.ensures.high ∙ by_generator g.met.L.Level.ring _ _
