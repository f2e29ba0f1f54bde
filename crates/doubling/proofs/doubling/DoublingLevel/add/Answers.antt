use mathlib.Core.Path.{ap₂, sym, ◌∙◌}
use Rattle.doubling.specs.Doubled.{join}
use Rattle.doubling.specs.Join.{join_plus}
use Rattle.doubling.proofs.doubling.DoublingLevel.add.Goals as goal

pub returns : goal.returns
returns g c = ap₂ join c.sum_halves.ensures.low c.sum_halves.ensures.high ∙ sym (join_plus _ _ _ _)
