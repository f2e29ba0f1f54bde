use Rattle.plain.proofs.Summing.{sum_begins, sum_more}
use Rattle.plain.proofs.sums.sum_of.Goals as goal

pub loop-i-init : goal.loop-i-init
loop-i-init g c f says = sum_begins f _ c.zero-sum.ensures

pub loop-i-preserved : goal.loop-i-preserved
loop-i-preserved g c f says =
    sum_more f c.loop-i.i _ _ _ (c.loop-i.invariant f says) (says c.loop-i.i _ c.loop-i-test.true c.term.ensures) c.add-sum.ensures
