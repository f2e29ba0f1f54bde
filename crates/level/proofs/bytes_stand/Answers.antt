use Rattle.level.proofs.Digits.{bytes_are_coordinates}
use Rattle.level.proofs.bytes_stand.Goals as goal

pub returns : goal.returns
returns c = bytes_are_coordinates
