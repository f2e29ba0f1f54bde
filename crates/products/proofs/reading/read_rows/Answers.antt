use Rattle.std.proofs.Common.{◌≡◌, ◌+◌, ◌-◌, ◌*◌, length, take, drop, arith, length-drop}
use Rattle.std.proofs.lemmas.List.{length-take}
use Rattle.products.proofs.ReadingBytes.{byte_fits, bytes_more, all_rows}
use Rattle.products.proofs.reading.read_rows.Goals as goal

pub loop-j-preserved : goal.loop-j-preserved
loop-j-preserved g c =
    let m = g.L.Level.means in
    let j = c.loop-j.j in
    let fits = byte_fits g.L.Level.log j (omega arith) in
    let size = simp (length-take, length-drop) at c.read_byte.auto.buckets in
    let rows_size = simp (length-take, length-drop) at c.read_byte.auto.rows in
    let part : length (take (8 * j + c.min-count.result - 8 * j) (drop (8 * j) c.loop-j.rows)) ≡ c.min-count.result = simp (length-take, length-drop) (omega (arith, fits)) in
    bytes_more _ m c.min-count.result j c.loop-j.buckets c.read_byte.new.buckets c.loop-j.rows c.read_byte.new.rows _ _ (omega arith) (omega arith)
    (omega arith) (omega arith) (omega (arith, fits)) (omega (arith, size)) (omega (arith, rows_size, fits)) (rw part at c.read_byte.ensures) c.loop-j.invariant

pub returns-clause-rows : goal.returns-clause-rows
returns-clause-rows g c =
    all_rows _ g.L.Level.means c.min-count.result c.loop-j.j _ c.loop-j.rows (omega arith) (omega arith) (omega arith) c.loop-j.invariant
