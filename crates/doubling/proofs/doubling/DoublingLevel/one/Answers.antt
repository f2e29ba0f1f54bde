use mathlib.Core.Path.{ap, ap₂, ◌∙◌}
use Rattle.doubling.specs.Doubled.{join, doubled}
use Rattle.doubling.proofs.doubling.DoublingLevel.one.Goals as goal

pub returns : goal.returns
unfolding doubled
returns g c =
    let means = g.L.Level.means in
    ap₂ join (ap means c.new.ensures.low ∙ c.one.ensures) (ap means c.new.ensures.high ∙ c.zero.ensures)
