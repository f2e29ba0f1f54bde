use Rattle.tensor.proofs.ColumnTurns.{columns_scaled}
use Rattle.tensor.proofs.bit_tensor.BitTensor.scale_columns.Goals as goal

pub returns-clause-rows : goal.returns-clause-rows
returns-clause-rows g c =
    columns_scaled g.L.Level.means _ _ _ _ _ _ _ _ c.reading.ensures c.clear.ensures.rows c.add_scaled_columns.ensures.rows c.reading-2.ensures
    c.copy_from_slice.ensures.after
