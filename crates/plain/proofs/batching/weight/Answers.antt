use Rattle.std.proofs.Common.{ap, ◌∙◌}
use Rattle.ring_switch.specs.Batching.{weight}
use Rattle.plain.specs.Batches.{carried_weight}
use Rattle.plain.proofs.Weights.{weight_carried}
use Rattle.plain.proofs.batching.weight.Goals as goal

pub returns-in-None : goal.returns-in-None
unfolding weight
returns-in-None g c = rw c.in-None.is c.settled_weight-here.ensures

pub returns-in-Some : goal.returns-in-Some
returns-in-Some g c =
    let m = g.L.Level in
    rw c.in-Some.is (weight_carried m.arithmetic _ _ _ _ c.args.i _ _ _ _ c.saturating_sub.ensures c.settled_weight-here.ensures c.settled_weight-before.ensures
    (c.carried_weight.ensures ∙ ap (λ r. carried_weight m.arithmetic r (m.means c.in-Some.alpha) (m.means c.settled_weight-here.result) (m.means c.settled_weight-before.result) c.args.i) c.columns.ensures))
