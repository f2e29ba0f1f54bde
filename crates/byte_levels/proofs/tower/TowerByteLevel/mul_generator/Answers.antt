use Rattle.std.proofs.Common.{rules}
use Rattle.byte_levels.proofs.TowerProducts.{generator_times}
use Rattle.byte_levels.proofs.tower.TowerByteLevel.mul_generator.Goals as goal

pub returns : goal.returns
returns c = search (rules, generator_times)
