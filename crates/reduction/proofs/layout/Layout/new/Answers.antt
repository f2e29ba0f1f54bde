use Rattle.reduction.proofs.Fitting.{end_small}
use Rattle.reduction.proofs.layout.Layout.new.Goals as goal

pub invariant_of-result-clause-small : goal.invariant_of-result-clause-small
invariant_of-result-clause-small g c = end_small g.L.Level.log c.args.variables c.requires.level.1 c.requires.variables.1
