use Rattle.std.proofs.Common.{arith}
use Rattle.multilinear.specs.Lent.{lent}
use Rattle.basis.proofs.CompletedTables.{lone_within, placed_more, placed_all}
use Rattle.basis.proofs.coordinate_sums.scaled_sums_into.Goals as goal

pub loop-coordinate-preserved : goal.loop-coordinate-preserved
loop-coordinate-preserved g c =
    let u = c.loop-coordinate.coordinate in
    placed_more g.L.Level.means _ c.loop-coordinate.out u _ _ c.lone.ensures
    (omega (arith, lone_within u c.num_bytes-coordinate-end.result c.loop-coordinate-test.true)) c.loop-coordinate.invariant c.scaled_weight.ensures

pub returns : goal.returns
returns g c =
    placed_all _ (lent g.L.Level.means c.loop-coordinate.out) _ c.loop-coordinate.coordinate (omega arith) c.loop-coordinate.invariant c.complete.ensures
