use Rattle.std.proofs.Common.{arith}
use Rattle.multilinear.proofs.Places.{filled_more}
use Rattle.folding.proofs.shifting.shift.Goals as goal

pub loop-j-preserved : goal.loop-j-preserved
loop-j-preserved g c =
    filled_more g.L.Level.means _ c.loop-j.out c.loop-j.j _ (omega arith) c.entry_before.ensures c.loop-j.invariant
