use Rattle.std.proofs.Common.{◌≡◌, ◌+◌, ◌*◌}
use Rattle.multilinear.specs.Cells.{cell}
use Rattle.multilinear.specs.Gathered.{binary}
use Rattle.plain.proofs.cells.packed_element.Given as goal

abbrev pub invariant-loop-v : goal.invariant-loop-v
invariant-loop-v g l = l.coordinates ≡ binary l.v (λ v. cell l.bits (l.w * l.d + v))
