use Rattle.std.proofs.Common.{ap, ◌∙◌, arith}
use Rattle.ring_switch.specs.Opening.{prefix}
use Rattle.reduction.specs.Layout.{scratch_start}
use Rattle.reducing.proofs.Keeping.{asked_is, tensors_formed, tensors_kept}
use Rattle.reducing.proofs.Answered.{values_are, incoming_held}
use Rattle.reducing.proofs.steps.opening_values.Goals as goal

pub successor_of-requires : goal.successor_of-requires
successor_of-requires g c =
    let m = g.L.Level in
    let p = c.args.opened.now in
    let formed = tensors_formed m g.met.L.Level.ring p _ _ c.work.auto.memory c.work.ensures.before c.work.ensures.worked c.requires in
    tensors_kept m g.met.L.Level.ring p (scratch_start m.log p.layout.variables) _ _ c.incoming_claim-incoming.auto.memory c.incoming_claim-incoming.ensures.before (omega arith) formed

pub returns-clause-values : goal.returns-clause-values
returns-clause-values g c =
    let m = g.L.Level in
    let p = c.args.opened.now in
    let formed = tensors_formed m g.met.L.Level.ring p _ _ c.work.auto.memory c.work.ensures.before c.work.ensures.worked c.requires in
    values_are _ _ _ _ _ _ _ (c.incoming_claim-incoming.ensures.value ∙ incoming_held m g.met.L.Level.ring p c.work.new.memory formed) c.successor_of.ensures.value
    (c.fixed_prefix.ensures.count ∙ ap (λ q. (prefix m.arithmetic q).count) (asked_is m p)) (c.fixed_prefix.ensures.address ∙ ap (λ q. (prefix m.arithmetic q).address) (asked_is m p))

pub returns-clause-holds : goal.returns-clause-holds
returns-clause-holds g c = c.successor_of.ensures.holds
