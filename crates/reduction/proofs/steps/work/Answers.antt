use Rattle.std.proofs.Common.{◌≡◌, ◌∙◌, sym, subst, arith}
use Rattle.ring_switch.specs.Opening.{rest}
use Rattle.reduction.specs.Layout.{outer_start, carry_start, low_start}
use Rattle.reduction.specs.Worked.{SlotFactors}
use Rattle.reduction.proofs.Cut.{start_kept}
use Rattle.reduction.proofs.Standing.{stands_kept}
use Rattle.reduction.proofs.Working.{opening_kept, worked}
use Rattle.reduction.proofs.steps.work.Goals as goal

pub work_sent-requires-clause-stands : goal.work_sent-requires-clause-stands
work_sent-requires-clause-stands g c =
    stands_kept g.L.Level c.args.layout.variables c.args.opened (outer_start g.L.Level.log c.args.layout.variables) _ _ (omega arith) (sym c.work_tensor.ensures.before) c.requires.stands

pub work_sent-requires-clause-factors : goal.work_sent-requires-clause-factors
work_sent-requires-clause-factors g c =
    let m = g.L.Level in
    let C = c.args.layout.variables in
    subst (λ q. SlotFactors m C (rest m.arithmetic q) c.work_tensor.new.memory)
    (opening_kept m g.met.L.Level.ring C c.args.opened (outer_start m.log C) c.args.memory.now c.work_tensor.new.memory c.requires.stands (omega arith) (sym c.work_tensor.ensures.before))
    c.work_tensor.ensures.factors

pub work_low-requires-clause-stands : goal.work_low-requires-clause-stands
work_low-requires-clause-stands g c =
    let m = g.L.Level in
    let C = c.args.layout.variables in
    stands_kept m C c.args.opened (carry_start m.log C) _ _ (omega arith) (sym c.work_sent.ensures.before)
    (stands_kept m C c.args.opened (outer_start m.log C) _ _ (omega arith) (sym c.work_tensor.ensures.before) c.requires.stands)

pub returns-clause-before : goal.returns-clause-before
returns-clause-before g c =
    let k = g.L.Level.log in
    let C = c.args.layout.variables in
    start_kept (outer_start k C) (low_start k C) _ _ (omega arith) c.work_low.ensures.before
    ∙ start_kept (outer_start k C) (carry_start k C) _ _ (omega arith) c.work_sent.ensures.before ∙ c.work_tensor.ensures.before

pub returns-clause-stands : goal.returns-clause-stands
returns-clause-stands g c =
    let m = g.L.Level in
    let C = c.args.layout.variables in
    stands_kept m C c.args.opened (low_start m.log C) _ _ (omega arith) (sym c.work_low.ensures.before)
    (stands_kept m C c.args.opened (carry_start m.log C) _ _ (omega arith) (sym c.work_sent.ensures.before)
    (stands_kept m C c.args.opened (outer_start m.log C) _ _ (omega arith) (sym c.work_tensor.ensures.before) c.requires.stands))

pub returns-clause-worked : goal.returns-clause-worked
returns-clause-worked g c =
    worked g.L.Level g.met.L.Level.ring c.args.layout.variables c.args.opened c.args.memory.now c.work_tensor.new.memory c.work_sent.new.memory _ c.requires.stands
    c.work_tensor.ensures.before c.work_sent.ensures.before c.work_low.ensures.before
    c.work_tensor.ensures.factors c.work_tensor.ensures.tensor c.work_sent.ensures.carry c.work_sent.ensures.last c.work_low.ensures.low
