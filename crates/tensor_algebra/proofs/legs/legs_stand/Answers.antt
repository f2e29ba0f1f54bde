use Rattle.tensor_algebra.proofs.LoneLegs.{legs}
use Rattle.tensor_algebra.proofs.legs.legs_stand.Goals as goal

pub returns : goal.returns
returns c k A laws = legs laws
