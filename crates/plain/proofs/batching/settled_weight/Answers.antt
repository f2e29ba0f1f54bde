use Rattle.std.proofs.Common.{ap, ◌∙◌}
use Rattle.multilinear.specs.Equality.{equality}
use Rattle.tensor_algebra.specs.Tensor.{subset_sum}
use Rattle.ring_switch.specs.Batching.{settled}
use Rattle.opening.specs.Batches.{rows_of}
use Rattle.plain.proofs.batching.settled_weight.Goals as goal

pub returns : goal.returns
unfolding settled
returns g c =
    let m = g.L.Level in
    c.subset_sum.ensures
    ∙ ap (subset_sum (rows_of m c.args.batch.now)) (c.equality_entry-entry.ensures ∙ ap (λ p. equality m.arithmetic p c.args.i) c.rest.ensures.rest)
