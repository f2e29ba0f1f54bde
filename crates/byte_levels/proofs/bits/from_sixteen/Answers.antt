use Rattle.std.proofs.Common.{rules}
use Rattle.byte_levels.proofs.Coordinates.{first_of_sixteen}
use Rattle.byte_levels.proofs.bits.from_sixteen.Goals as goal

pub returns : goal.returns
returns c = search (rules, first_of_sixteen)
