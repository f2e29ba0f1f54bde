use Rattle.std.proofs.Common.{◌/◌, ◌<◌, length, rules}
use Rattle.coordinates.proofs.CellsOfBytes.{cell_set, cell_kept}
use Rattle.coordinates.proofs.coefficients.Coefficients.set.Goals as goal

pub returns : goal.returns
returns c =
    let bytes = c.args.self.now.bytes in
    let i = c.args.index in
    let h : i / 8 < length bytes = search rules in
    record { chosen = cell_set bytes i _ h c.with_bit.ensures; others = cell_kept bytes i _ h c.with_bit.ensures }
