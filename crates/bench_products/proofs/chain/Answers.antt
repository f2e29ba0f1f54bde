use mathlib.Core.Path.{refl, ap, ◌∙◌}
use native.Mathlib.Numerals.{add-one}
use Rattle.bench_products.specs.Chain.{chained}
use Rattle.bench_products.proofs.chain.Goals as goal

pub loop-init : goal.loop-init
unfolding chained
loop-init g c = refl

pub loop-preserved : goal.loop-preserved
unfolding chained
loop-preserved g c = rw add-one (c.mul-product.ensures ∙ ap (λ p. g.L.Level.arithmetic.times p (g.L.Level.means c.args.y)) c.loop.invariant)
