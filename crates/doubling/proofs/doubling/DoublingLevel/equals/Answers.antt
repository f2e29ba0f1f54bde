use mathlib.Core.Path.{ap, sym, ◌∙◌}
use Rattle.doubling.specs.Doubled.{low, high}
use Rattle.doubling.specs.Join.{low_join, high_join}
use Rattle.doubling.proofs.doubling.DoublingLevel.equals.Goals as goal

pub returns-clause-found : goal.returns-clause-found
returns-clause-found g c e =
    c.same_halves.ensures.found (sym (low_join _ _) ∙ ap low e ∙ low_join _ _) (sym (high_join _ _) ∙ ap high e ∙ high_join _ _)
