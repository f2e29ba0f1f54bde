use Rattle.doubling.specs.Doubled.{tower}
use Rattle.bench_products.proofs.chain_tower_128.Goals as goal

pub returns : goal.returns
unfolding tower
returns c = c.chain_low.ensures
