use Rattle.std.proofs.Common.{◌≡◌}
use Rattle.coordinates.proofs.Columns.{gathered}
use Rattle.coordinates.proofs.per_coordinate.PerCoordinate.column.Given as goal

abbrev pub invariant-loop-u : goal.invariant-loop-u
invariant-loop-u g l = l.column ≡ gathered g.L.Level.means l.self.elements.now l.v l.u
