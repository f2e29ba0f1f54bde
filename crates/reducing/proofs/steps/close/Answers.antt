use Rattle.std.proofs.Common.{◌≡◌, length, None, sym, ap, ◌∙◌, arith}
use Rattle.ring_switch.specs.Opening.{rest}
use Rattle.refusals.specs.Steps.{closing}
use Rattle.problem.specs.Task.{asked}
use Rattle.reduction.specs.Layout.{scratch_start}
use Rattle.reducing.specs.Held.{task}
use Rattle.reducing.proofs.Keeping.{held_kept, batching_kept}
use Rattle.reducing.proofs.Answered.{closing_held, closing_fits, closing_tested}
use Rattle.reducing.proofs.steps.close.Given as given
use Rattle.reducing.proofs.steps.close.Goals as goal
use Rattle.reducing.proofs.steps.close.Goals.{In_ok-check_closing}

passed : (g : given.Over) (c : In_ok-check_closing g) → None ≡ closing (length (rest g.L.Level.arithmetic (asked (task g.L.Level c.args.opened.now)))) (length c.args.z.now)
passed g c = c.in_ok-check_closing.ensures ∙ closing_tested g.L.Level c.args.opened.now (length c.args.z.now)

pub closing_value-requires-clause-closing : goal.closing_value-requires-clause-closing
closing_value-requires-clause-closing g c =
    let m = g.L.Level in
    closing_fits _ _ (passed g (goal.at.closing_value-requires-clause-closing g c).In_ok-check_closing)
    ∙ ap (λ q. length (rest m.arithmetic q)) (sym c.requires.tensors.opening.opening_is)

pub returns-clause-holds : goal.returns-clause-holds
returns-clause-holds g c =
    let p = c.args.opened.now in
    batching_kept g.L.Level g.met.L.Level.ring p (scratch_start g.L.Level.log p.layout.variables) _ _ c.closing_value.auto.memory c.closing_value.ensures.before (omega arith) c.requires

pub returns-clause-same : goal.returns-clause-same
returns-clause-same g c =
    let p = c.args.opened.now in
    held_kept g.L.Level g.met.L.Level.ring p (scratch_start g.L.Level.log p.layout.variables) _ _ c.closing_value.auto.memory c.closing_value.ensures.before (omega arith)

pub returns-clause-closes : goal.returns-clause-closes
returns-clause-closes g c =
    let m = g.L.Level in
    let p = c.args.opened.now in
    let tested = passed g (goal.at.returns-clause-closes g c).In_ok-check_closing in
    (tested, c.closing_value.ensures.value ∙ closing_held m g.met.L.Level.ring p c.args.memory.now c.requires c.args.z.now (closing_fits _ _ tested))
