use Rattle.std.proofs.Common.{arith}
use Rattle.equality.proofs.Widening.{widening_more, widening_ends}
use Rattle.equality.proofs.table.widen.Goals as goal

pub loop-i-preserved : goal.loop-i-preserved
loop-i-preserved g c =
    widening_more g.L.Level.means _ _ c.loop-i.i _ _ c.loop-i.low c.loop-i.high c.index-low-i.result _ _ (omega arith) (omega arith)
    c.split-split_entry.ensures.low c.split-split_entry.ensures.high c.loop-i.invariant

pub returns : goal.returns
returns g c =
    widening_ends g.L.Level.means _ _ c.args.half c.loop-i.i _ _ _ c.loop-i.low c.loop-i.high c.split_at_mut-low.ensures.value
    c.split_at_mut-low.ensures.front_len (omega arith) (omega arith) (omega arith) c.loop-i.invariant
