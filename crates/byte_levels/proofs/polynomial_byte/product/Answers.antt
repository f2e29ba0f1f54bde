use Rattle.std.proofs.Common.{ap, ◌∙◌}
use Rattle.level.specs.Element.{cut}
use Rattle.byte_levels.specs.Rows.{selected}
use Rattle.byte_levels.proofs.PolynomialProducts.{polynomial_product}
use Rattle.byte_levels.proofs.polynomial_byte.product.Goals as goal

pub returns : goal.returns
returns c =
    ap (cut 3) (c.combine.ensures ∙ ap (selected c.args.a) c.multiples.ensures)
    ∙ polynomial_product c.args.a c.args.b c.ranges.a.fits c.ranges.b.fits
