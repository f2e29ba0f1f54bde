use mathlib.Core.Path.{◌≡◌}
use Rattle.bench_products.specs.Chain.{chained}
use Rattle.bench_products.proofs.chain.Given as goal

abbrev pub invariant-loop : goal.invariant-loop
invariant-loop g l = g.L.Level.means l.product ≡ chained g.L.Level.arithmetic l.counter (g.L.Level.means l.initial.product) (g.L.Level.means l.y)
