use Rattle.coordinates.proofs.CellsOfBytes.{cell_none, cell_shown, made_cells}
use Rattle.coordinates.proofs.coefficients.coordinates_stand.Goals as goal

pub returns : goal.returns
returns c = record { none = cell_none 16; shown = λ k. cell_shown; made = made_cells }
