use Rattle.multilinear.specs.Cells.{cell}
use Rattle.coordinates.proofs.coefficients.Coefficients.get.Goals as goal

pub returns : goal.returns
unfolding cell
returns c = c.bit.ensures
