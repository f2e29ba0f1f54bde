use Rattle.std.proofs.Common.{length, arith}
use Rattle.products.proofs.ReadingBits.{reading_begins, reading_more}
use Rattle.products.proofs.reading.read_byte.Goals as goal

pub loop-i-init : goal.loop-i-init
loop-i-init g c = reading_begins _ _ _ c.requires.rows

pub loop-i-preserved : goal.loop-i-preserved
loop-i-preserved g c =
    rw c.write_row.ensures
    (reading_more _ g.L.Level.means (length c.args.rows.now) c.loop-i.i _ _ _ c.loop-i.rows _ (omega arith) (omega arith) (omega arith) c.half.ensures
    c.halve.ensures.halved c.halve.ensures.upper c.loop-i.invariant)
