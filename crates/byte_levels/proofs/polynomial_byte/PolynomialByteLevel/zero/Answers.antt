use Rattle.std.proofs.Common.{rules}
use Rattle.byte_levels.proofs.Coordinates.{zero_is}
use Rattle.byte_levels.proofs.polynomial_byte.PolynomialByteLevel.zero.Goals as goal

pub returns : goal.returns
returns c = search (rules, zero_is)
