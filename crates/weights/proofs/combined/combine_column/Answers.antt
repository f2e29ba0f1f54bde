use Rattle.std.proofs.Common.{arith}
use Rattle.weights.proofs.Combining.{combined_more}
use Rattle.weights.proofs.combined.combine_column.Goals as goal

pub loop-row-preserved : goal.loop-row-preserved
loop-row-preserved g c =
    combined_more g.L.Level.means g.L.Level.arithmetic _ _ c.args.column.now c.loop-row.column c.loop-row.row _ (omega arith) (omega arith) (omega arith)
    c.combined.ensures c.loop-row.invariant
