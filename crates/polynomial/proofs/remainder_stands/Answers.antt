use Rattle.polynomial.proofs.Division.{remainder}
use Rattle.polynomial.proofs.remainder_stands.Goals as goal

pub returns : goal.returns
returns c = remainder
