use mathlib.Core.Path.{ap₂, ◌∙◌}
use lib.Dec.{lit≤}
use Rattle.level.proofs.Words.{from_shown}
use Rattle.doubling.specs.Doubled.{tower}
use Rattle.tower_agreement.proofs.product_by_doublings.Goals as goal

pub returns : goal.returns
unfolding tower
returns c =
    c.carried.ensures ∙ from_shown {k = 3} _ (lit≤ tt) ∙ c.mul.ensures
    ∙ ap₂ (tower 3).times (c.carried-x.ensures ∙ from_shown {k = 3} _ (lit≤ tt)) (c.carried-y.ensures ∙ from_shown {k = 3} _ (lit≤ tt))
