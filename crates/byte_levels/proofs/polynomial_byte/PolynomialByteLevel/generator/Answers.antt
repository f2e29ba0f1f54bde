use Rattle.std.proofs.Common.{rules}
use Rattle.byte_levels.proofs.PolynomialProducts.{generator_is}
use Rattle.byte_levels.proofs.polynomial_byte.PolynomialByteLevel.generator.Goals as goal

pub returns : goal.returns
returns c = search (rules, generator_is)
