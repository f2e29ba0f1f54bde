use Rattle.std.proofs.Common.{rules}
use Rattle.byte_levels.proofs.PolynomialProducts.{generator_times}
use Rattle.byte_levels.proofs.polynomial_byte.PolynomialByteLevel.mul_generator.Goals as goal

pub returns : goal.returns
returns c = search (rules, generator_times)
