use Rattle.std.proofs.Common.{rules}
use Rattle.byte_levels.proofs.PolynomialProducts.{one_is}
use Rattle.byte_levels.proofs.polynomial_byte.PolynomialByteLevel.one.Goals as goal

pub returns : goal.returns
returns c = search (rules, one_is)
