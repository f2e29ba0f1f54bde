use Rattle.std.proofs.Common.{rules}
use Rattle.byte_levels.proofs.TowerProducts.{one_is}
use Rattle.byte_levels.proofs.tower.TowerByteLevel.one.Goals as goal

pub returns : goal.returns
returns c = search (rules, one_is)
