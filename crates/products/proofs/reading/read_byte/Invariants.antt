use Rattle.std.proofs.Common.{length}
use Rattle.multilinear.specs.Lent.{lent}
use Rattle.products.proofs.ReadingBits.{Reading}
use Rattle.products.proofs.reading.read_byte.Given as goal

abbrev pub invariant-loop-i : goal.invariant-loop-i
invariant-loop-i g l =
    let m = g.L.Level in
    Reading (length l.initial.rows) l.i (lent m.means l.initial.buckets) (lent m.means l.buckets) (lent m.means l.rows)
