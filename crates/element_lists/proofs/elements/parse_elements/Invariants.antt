use Rattle.std.proofs.Common.{map, vec_items}
use Rattle.element_lists.proofs.Joining.{Front}
use Rattle.element_lists.proofs.elements.parse_elements.Given as goal

abbrev pub invariant-loop-i : goal.invariant-loop-i
invariant-loop-i g l = Front l.digits l.text (map g.L.Level.means (vec_items l.elements)) l.i
