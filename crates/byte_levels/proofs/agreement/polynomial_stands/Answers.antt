use Rattle.byte_levels.proofs.PolynomialProducts.{polynomial_byte}
use Rattle.byte_levels.proofs.agreement.polynomial_stands.Goals as goal

pub returns : goal.returns
returns c = polynomial_byte
