use Rattle.std.proofs.Common.{◌≡◌, length, is_some, None, sym, ap, ◌∙◌}
use Rattle.ring_switch.specs.Opening.{kept}
use Rattle.report_lines.specs.Batched.{batch_refusal}
use Rattle.reducing.proofs.Keeping.{batching_put}
use Rattle.reducing.proofs.Answered.{view_is, batching_fits, batching_tested, rows_agree}
use Rattle.reducing.proofs.steps.batch.Given as given
use Rattle.reducing.proofs.steps.batch.Goals as goal
use Rattle.reducing.proofs.steps.batch.Goals.{In_ok-check_batching}

-- the batching is not refused
passed : (g : given.Over) (c : In_ok-check_batching g) → None ≡ batch_refusal g.L.Level.log c.args.opened.now.problem.now.view c.args.opened.now.problem.now.challenge (length c.args.batching.now)
passed g c = c.in_ok-check_batching.ensures ∙ batching_tested g.L.Level c.args.opened.now c.is_some.result (length c.args.batching.now) c.is_some.ensures

-- so it fits
fits : (g : given.Over) (c : In_ok-check_batching g)
    → (is_some c.args.opened.now.problem.now.challenge ≡ is_some (kept g.L.Level.log c.args.opened.now.problem.now.view)) × (length c.args.batching.now ≡ g.L.Level.log)
fits g c =
    let p = c.args.opened.now in
    batching_fits g.L.Level.log (is_some (kept g.L.Level.log p.problem.now.view)) (is_some p.problem.now.challenge) (length c.args.batching.now) (passed g c)

-- the same by the view that the stretch has
challenged : (g : given.Over) (c : In_ok-check_batching g) → is_some c.args.opened.now.problem.now.challenge ≡ is_some (kept g.L.Level.log c.args.opened.now.opened.view)
challenged g c =
    let m = g.L.Level in
    (fits g c).0 ∙ ap (λ v. is_some (kept m.log v)) (sym (view_is m g.met.L.Level.ring c.args.opened.now c.args.memory.now c.requires.opening))

pub batch-requires-clause-batching : goal.batch-requires-clause-batching
batch-requires-clause-batching g c = (fits g (goal.at.batch-requires-clause-batching g c).In_ok-check_batching).1

pub batch-requires-clause-challenged : goal.batch-requires-clause-challenged
batch-requires-clause-challenged g c = challenged g (goal.at.batch-requires-clause-challenged g c).In_ok-check_batching

pub returns-clause-refusal : goal.returns-clause-refusal
returns-clause-refusal g c = passed g (goal.at.returns-clause-refusal g c).In_ok-check_batching

pub returns-clause-holds : goal.returns-clause-holds
returns-clause-holds g c =
    batching_put g.L.Level g.met.L.Level.ring c.args.opened.now c.args.memory.now c.batch.new.memory c.batch.auto.memory c.batch.ensures.before
    (challenged g (goal.at.returns-clause-holds g c).In_ok-check_batching) c.batch.ensures.batched c.requires

pub returns-clause-rows : goal.returns-clause-rows
returns-clause-rows g c =
    let p = c.args.opened.now in
    rows_agree g.L.Level p.layout.variables p.opened _ c.batch.new.memory c.args.batching.now c.batch.ensures.batched c.batch.ensures.point
    (fits g (goal.at.returns-clause-rows g c).In_ok-check_batching).1
