use Rattle.std.proofs.Common.{rules}
use Rattle.coordinates.proofs.Zeroed.{filled_nothing}
use Rattle.coordinates.proofs.clear.Goals as goal

pub returns : goal.returns
returns g c = filled_nothing g.L.Level.means _ (λ p q x called. search rules) _ _ _ c.fill_with.ensures.ran.1
