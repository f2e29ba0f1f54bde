use Rattle.std.proofs.Common.{Some, sym, ap, ◌∙◌, arith}
use Rattle.std.specs.Option.{option_map}
use Rattle.reduction.specs.Layout.{scratch_start}
use Rattle.reducing.proofs.Keeping.{tensors_kept}
use Rattle.reducing.proofs.Answered.{successor_held}
use Rattle.reducing.proofs.steps.successor_of.Goals as goal

pub returns-in-Some-clause-holds : goal.returns-in-Some-clause-holds
returns-in-Some-clause-holds g c =
    let p = c.args.opened.now in
    tensors_kept g.L.Level g.met.L.Level.ring p (scratch_start g.L.Level.log p.layout.variables) _ _ c.successor_claim.auto.memory c.successor_claim.ensures.before (omega arith) c.requires

pub returns-in-Some-clause-value : goal.returns-in-Some-clause-value
returns-in-Some-clause-value g c =
    ap Some (c.successor_claim.ensures.value ∙ successor_held g.L.Level g.met.L.Level.ring c.args.opened.now c.args.memory.now c.in-Some.rows c.requires c.in-Some.is)
    ∙ sym (ap (option_map _) c.in-Some.is)

pub returns-in-None-clause-value : goal.returns-in-None-clause-value
returns-in-None-clause-value g c = sym (ap (option_map _) c.in-None.is)
