use Rattle.byte_levels.proofs.TowerProducts.{tower_byte}
use Rattle.byte_levels.proofs.agreement.tower_stands.Goals as goal

pub returns : goal.returns
returns c = tower_byte
