use Rattle.std.proofs.Common.{◌≡◌, ◌/◌, ◌^◌}
use Rattle.multilinear.proofs.Places.{Written}
use Rattle.tensor.proofs.Turns.{picked}
use Rattle.tensor.proofs.rows.add_to_each.Given as goal

abbrev pub invariant-loop-row : goal.invariant-loop-row
invariant-loop-row g l =
    let means = g.L.Level.means in
    (l.rest ≡ l.coordinates / 2 ^ l.row-index) × Written means (picked means l.coordinates (means l.b) l.initial.rows) l.initial.rows l.rows l.row-index
