use Rattle.std.proofs.Common.{map, arith}
use Rattle.multilinear.specs.Equality.{equality}
use Rattle.multilinear.proofs.Places.{filled_more}
use Rattle.plain.proofs.points.equality_entries.Goals as goal

pub loop-i-preserved : goal.loop-i-preserved
loop-i-preserved g c =
    let m = g.L.Level in
    filled_more m.means (equality m.arithmetic (map m.means c.args.point.now)) c.loop-i.out c.loop-i.i _ (omega arith) c.equality_entry.ensures c.loop-i.invariant
