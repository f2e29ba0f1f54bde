use Rattle.std.proofs.Common.{◌≡◌, ◌+◌, ◌*◌, length, take, drop, sym, ap, ◌∙◌, inl, inr, ⊎_elim, arith, rules}
use Rattle.std.specs.Iterator.Adapters.{zip_second}
use Rattle.std.specs.Slice.Iter.{iter_rest}
use Rattle.std.proofs.lemmas.List.{length_push}
use Rattle.multilinear.specs.Lent.{lent}
use Rattle.basis.proofs.LookedUpSums.{looked_none, looked_more, looked_all, looked_below}
use Rattle.basis.proofs.LookedUpChunks.{table_within, tables_left, table_read, byte_within, bytes_left, byte_read, all_tables}
use Rattle.basis.proofs.coordinate_sums.CoordinateSums.sum.Goals as goal

pub loop-table-init : goal.loop-table-init
loop-table-init g c =
    record {
      size = search rules;
      unread = search rules;
      within = omega arith;
      left = search rules;
      short = omega arith;
      sum = looked_none (lent g.L.Level.means c.args.self.now.tables.now) (iter_rest (zip_second c.into_iter-table-iterator.result)) _ c.zero-sum.ensures;
    }

pub loop-table-preserved : goal.loop-table-preserved
loop-table-preserved g c =
    let m = g.L.Level in
    let s = c.in-Some.ensures.steps in
    let it = c.loop-table.invariant in
    let tables = c.args.self.now.tables.now in
    let bytes = iter_rest (zip_second c.into_iter-table-iterator.result) in
    let n = length c.loop-table.yielded in
    let x = c.index-table-from.result in
    let parts = sym it.unread ∙ s.0.1.0 in
    let size = s.0.1.1 ∙ it.size in
    let byte = sym it.left ∙ s.1 in
    let next = length_push c.loop-table.yielded (c.in-Some.table, c.in-Some.byte) in
    let within = table_within m.means tables c.in-Some.table.now _ n parts size in
    let short = byte_within bytes _ n c.in-Some.byte.now byte in
    let place = ap (λ b. 256 * n + b) (c.from.ensures ∙ byte_read bytes _ n c.in-Some.byte.now byte) in
    let read = table_read m.means tables c.in-Some.table.now _ n parts size c.from.result x (omega arith) c.index-table-from.is in
    record {
      size = s.0.0 ∙ it.size;
      unread = tables_left m.means tables c.in-Some.table.now _ n parts size ∙ ap (λ i. drop (i * 256) tables) (sym next);
      within = omega (arith, within, next);
      left = bytes_left bytes _ n c.in-Some.byte.now byte ∙ ap (λ i. drop i bytes) (sym next);
      short = omega (arith, short, next);
      sum = looked_more (lent m.means tables) bytes n (256 * n + c.from.result) (m.means c.loop-table.sum) (m.means x) (m.means c.add-sum.result) it.sum place read c.add-sum.ensures
          ∙ ap (looked_below (lent m.means tables) bytes) (sym next);
    }

pub returns : goal.returns
returns g c =
    let m = g.L.Level in
    let sums = c.args.self.now in
    let it = c.loop-table.invariant in
    let tables = c.args.self.now.tables.now in
    let bytes = iter_rest (zip_second c.into_iter-table-iterator.result) in
    let n = length c.loop-table.yielded in
    let all = c.to_bytes-bytes.result in
    let count = c.num_bytes.result in
    let second : iter_rest (zip_second c.zip-table-items.result) ≡ take count all = c.zip-table-items.ensures.second.0 in
    let front = ap (λ i. iter_rest (zip_second i)) c.into_iter-table-iterator.ensures.into_iter_gives ∙ second in
    let past = all_tables tables all bytes (m.means c.args.value) count n sums.narrow sums.sized c.num_bytes.ensures c.to_bytes-bytes.ensures front it.within it.short
    (⊎_elim (λ e. inl (omega (arith, e.1.1.0, ap length it.unread, it.size))) (λ e. inr (sym (ap length it.left) ∙ e.1.0)) c.in-None.ensures.steps) in
    looked_all (lent m.means tables) bytes all (m.means c.args.value) _ count n sums.narrow c.num_bytes.ensures c.to_bytes-bytes.ensures front it.short past it.sum
