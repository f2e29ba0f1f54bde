use Rattle.std.proofs.Common.{rules}
use Rattle.byte_levels.proofs.TowerProducts.{generator_is}
use Rattle.byte_levels.proofs.tower.TowerByteLevel.generator.Goals as goal

pub returns : goal.returns
returns c = search (rules, generator_is)
