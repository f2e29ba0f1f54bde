use Rattle.std.proofs.Common.{◌≡◌, length}
use Rattle.coordinates.proofs.Batched.{batched}
use Rattle.coordinates.proofs.per_coordinate.PerCoordinate.batch_rows.Given as goal

abbrev pub invariant-loop-row : goal.invariant-loop-row
invariant-loop-row g l =
    let m = g.L.Level in
    m.means l.sum ≡ batched m.means m.arithmetic l.weights.elements.now l.self.elements.now (length l.yielded)
