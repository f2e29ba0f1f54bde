use Rattle.multilinear.specs.Lent.{lent}
use Rattle.products.proofs.ReadingBytes.{BytesRead}
use Rattle.products.proofs.reading.read_rows.Given as goal

abbrev pub invariant-loop-j : goal.invariant-loop-j
invariant-loop-j g l =
    let m = g.L.Level in
    BytesRead l.count l.j (lent m.means l.initial.buckets) (lent m.means l.buckets) (lent m.means l.rows)
