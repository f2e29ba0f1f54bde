use Rattle.tensor.proofs.ColumnTurns.{factor_made}
use Rattle.tensor.proofs.bit_tensor.BitTensor.mul_equality_factor.Goals as goal

pub returns-clause-rows : goal.returns-clause-rows
returns-clause-rows g c =
    factor_made g.L.Level.means g.met.L.Level.ring _ _ _ _ _ _ _ _ _ _ c.reading.ensures c.clear.ensures.rows c.add_scaled_columns.ensures.rows c.reading-2.ensures
    c.one_plus.ensures c.scale_rows.ensures.rows c.add.ensures.rows
