use Rattle.std.proofs.Common.{rules}
use Rattle.byte_levels.proofs.Coordinates.{same_byte}
use Rattle.byte_levels.proofs.bits.equal.Goals as goal

pub returns-clause-found : goal.returns-clause-found
returns-clause-found c = search (rules, same_byte)
