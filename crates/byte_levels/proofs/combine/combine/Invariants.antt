use Rattle.std.proofs.Common.{◌≡◌, drop}
use lib.Bits.{bit_xor}
use Rattle.byte_levels.specs.Rows.{selected}
use Rattle.byte_levels.proofs.combine.combine.Given as goal

abbrev pub invariant-loop-row : goal.invariant-loop-row
invariant-loop-row l = bit_xor l.sum (selected l.bits (drop l.row-index l.rows)) ≡ selected l.a l.rows
