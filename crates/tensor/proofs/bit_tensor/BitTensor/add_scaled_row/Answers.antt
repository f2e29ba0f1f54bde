use Rattle.tensor.proofs.ColumnTurns.{zero_row}
use Rattle.tensor.proofs.bit_tensor.BitTensor.add_scaled_row.Goals as goal

pub returns-else-not-equals-clause-rows : goal.returns-else-not-equals-clause-rows
returns-else-not-equals-clause-rows g c = zero_row _ _ _ _ c.zero.ensures (c.if-not-equals.ensures.agree tt)
