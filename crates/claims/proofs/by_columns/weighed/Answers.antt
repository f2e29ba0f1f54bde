use Rattle.std.proofs.Common.{arith, rules}
use Rattle.coordinates.proofs.Batched.{batched_none, batched_more}
use Rattle.claims.proofs.Weighing.{weighed_all}
use Rattle.claims.proofs.by_columns.weighed.Goals as goal

pub loop-v-init : goal.loop-v-init
loop-v-init g c = search (rules, batched_none)

pub loop-v-preserved : goal.loop-v-preserved
loop-v-preserved g c =
    batched_more _ _ _ _ c.loop-v.v _ _ _ _ c.loop-v-test.true (omega (arith, c.args.columns.sized, c.args.weights.sized)) c.column-item.is c.index-weights-v.is
    (cc) c.loop-v.invariant

pub returns : goal.returns
returns g c =
    weighed_all _ _ c.args.columns.elements.now c.args.weights.elements.now c.loop-v.v _ c.args.columns.sized c.loop-v.auto.v-end c.loop-v-test.false
    c.loop-v.invariant
