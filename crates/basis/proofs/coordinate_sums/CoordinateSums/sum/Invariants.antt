use Rattle.std.proofs.Common.{◌≡◌, ◌*◌, ◌≤◌, length, drop}
use Rattle.std.specs.Iterator.Adapters.{zip_first, zip_second}
use Rattle.std.specs.Slice.Iter.{chunks_exact_rest, chunks_exact_size, iter_rest}
use Rattle.multilinear.specs.Lent.{lent}
use Rattle.basis.proofs.LookedUpSums.{looked_below}
use Rattle.basis.proofs.coordinate_sums.CoordinateSums.sum.Given as goal

-- as many bytes are looked up as tables have come
abbrev pub invariant-loop-table : goal.invariant-loop-table
invariant-loop-table g l =
    let n = length l.yielded in
    let tables = zip_first l.table-iterator in
    let bytes = iter_rest (zip_second l.initial.table-iterator) in
    record {
      size : chunks_exact_size tables ≡ 256;
      unread : chunks_exact_rest tables ≡ drop (n * 256) l.self.tables.now;
      within : n * 256 ≤ length l.self.tables.now;
      left : iter_rest (zip_second l.table-iterator) ≡ drop n bytes;
      short : n ≤ length bytes;
      sum : g.L.Level.means l.sum ≡ looked_below (lent g.L.Level.means l.self.tables.now) bytes n;
    }
