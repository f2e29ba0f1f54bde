use Rattle.std.proofs.Common.{rules}
use Rattle.level.proofs.Words.{from_le_bytes}
use Rattle.coordinates.proofs.Numbers.{number_of}
use Rattle.coordinates.proofs.coordinates.Goals as goal

pub returns : goal.returns
returns g c = search (rules, number_of, from_le_bytes)
