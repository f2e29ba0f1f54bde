use Rattle.std.proofs.Common.{◌≡◌, length}
use Rattle.coordinates.proofs.Transposed.{Read}
use Rattle.coordinates.proofs.per_coordinate.row_coordinates.Given as goal

abbrev pub invariant-loop-u : goal.invariant-loop-u
invariant-loop-u g l = (length l.source ≡ 128) × Read g.L.Level.means l.rows.elements.now l.source l.u
