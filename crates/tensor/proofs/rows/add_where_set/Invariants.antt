use Rattle.std.proofs.Common.{◌≡◌, ◌-◌, ◌/◌, ◌%◌, ◌^◌, ◌<◌, ◌≤◌, length}
use Rattle.multilinear.proofs.Places.{Written}
use Rattle.tensor.proofs.Turns.{picked}
use Rattle.tensor.proofs.rows.add_where_set.Given as goal

abbrev pub invariant-loop-place : goal.invariant-loop-place
invariant-loop-place g l =
    let means = g.L.Level.means in
    record {
      within : l.place ≤ 8;
      set : l.place < 8 → l.coordinates / 2 ^ l.place % 2 ≡ 1;
      added : Written means (picked means l.coordinates (means l.b) l.initial.rows) l.initial.rows l.rows l.place;
    }

abbrev pub decreases-loop-place : goal.decreases-loop-place
decreases-loop-place g l = length l.initial.rows - l.place
