use mathlib.Core.Path.{ap, ap₂, ◌∙◌}
use Rattle.doubling.specs.Doubled.{join}
use Rattle.doubling.specs.Join.{join_zeros}
use Rattle.doubling.proofs.doubling.DoublingLevel.zero.Goals as goal

pub returns : goal.returns
returns g c =
    let means = g.L.Level.means in
    ap₂ join (ap means c.new.ensures.low ∙ c.zero.ensures) (ap means c.new.ensures.high ∙ c.zero-2.ensures) ∙ join_zeros g.L.Level.log
