use Rattle.std.proofs.Common.{rules}
use Rattle.doubling.specs.Doubled.{tower}
use Rattle.bench_reduction.proofs.pile.Tower128Level.mul.Goals as goal

pub returns : goal.returns
unfolding tower
returns c = search rules
