use Rattle.std.proofs.Common.{arith}
use Rattle.products.proofs.Halving.{halving_begins, halving_more, halving_sum, halving_ends}
use Rattle.products.proofs.reading.halve.Goals as goal

pub loop-s-init : goal.loop-s-init
loop-s-init g c = halving_begins g.L.Level.means _ _ _ c.zero-sum.ensures

pub loop-s-preserved : goal.loop-s-preserved
loop-s-preserved g c =
    halving_more g.L.Level.means c.loop-s.s _ c.split_at_mut-lower.result.1.now c.loop-s.lower c.index-upper-s.result c.index-lower-s.result _ _ _
    (omega arith) (omega arith) c.index-upper-s.is c.add.ensures c.add-sum.ensures c.loop-s.invariant

pub returns : goal.returns
returns g c =
    let m = g.L.Level.means in
    let split = c.split_at_mut-lower in
    let sum = halving_sum m c.args.half c.loop-s.s c.args.buckets.now split.result.0.now split.result.1.now c.loop-s.lower _
    split.ensures.value split.ensures.front_len (omega arith) (omega arith) c.loop-s.invariant in
    record {
      upper = sum;
      halved = halving_ends m c.args.half c.loop-s.s c.args.buckets.now split.result.0.now split.result.1.now c.loop-s.lower _
          split.ensures.value split.ensures.front_len (omega arith) (omega arith) c.loop-s.invariant;
    }
