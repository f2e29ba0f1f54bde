use Rattle.std.proofs.Common.{◌≡◌, ◌-◌, length}
use Rattle.coordinates.proofs.Transposed.{digits_from}
use Rattle.coordinates.proofs.per_coordinate.gather.Given as goal

abbrev pub invariant-loop-row : goal.invariant-loop-row
invariant-loop-row l = l.column ≡ digits_from l.source l.v (length l.source) (length l.source - length l.yielded)
