use Rattle.std.proofs.Common.{vec_items}
use Rattle.element_lists.proofs.Hexadecimal.{Front}
use Rattle.element_lists.proofs.bytes.parse_hex_bytes.Given as goal

abbrev pub invariant-loop-j : goal.invariant-loop-j
invariant-loop-j l = Front l.text (vec_items l.bytes) l.j
