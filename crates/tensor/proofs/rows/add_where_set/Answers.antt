use Rattle.std.proofs.Common.{arith}
use Rattle.multilinear.proofs.Places.{written_none}
use Rattle.tensor.proofs.Turns.{picked_to, picked_more, picked_all}
use Rattle.tensor.proofs.rows.add_where_set.Goals as goal

pub loop-place-init : goal.loop-place-init
loop-place-init g c =
    let next = c.next_set-place.ensures in
    record {
      within = next.within;
      set = next.set;
      added = picked_to g.L.Level.means _ _ _ _ 0 _ next (written_none g.L.Level.means _ _);
    }

pub loop-place-preserved : goal.loop-place-preserved
loop-place-preserved g c =
    let inv = c.loop-place.invariant in
    let next = c.next_set-place-in-loop-place.ensures in
    record {
      within = next.within;
      set = next.set;
      added = picked_to g.L.Level.means _ _ _ _ _ _ next
          (picked_more g.L.Level.means _ _ _ _ c.loop-place.place _ _ (omega arith) c.index-rows-place.is (inv.set (omega arith)) c.add.ensures inv.added);
    }

pub returns : goal.returns
returns g c = λ i h. picked_all g.L.Level.means _ _ _ _ c.loop-place.place i (omega arith) c.loop-place.invariant.added
