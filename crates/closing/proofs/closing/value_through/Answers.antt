use Rattle.std.proofs.Common.{map, ap}
use Rattle.std.specs.Option.{option_map}
use Rattle.ring_switch.specs.Opening.{kept_rows}
use Rattle.opening.specs.Openings.{opening_of}
use Rattle.opening.specs.Batches.{rows_of}
use Rattle.closing.specs.Ends.{slot_of}
use Rattle.closing.proofs.Ends.{closing_alone, closing_challenged}
use Rattle.closing.proofs.closing.value_through.Goals as goal

pub returns-in-None : goal.returns-in-None
returns-in-None g c =
    let m = g.L.Level in
    let b = c.args.batch.now in
    closing_alone m.arithmetic (rows_of m b) (slot_of m b) (map m.means c.args.z.now) (kept_rows (opening_of m b.reduction)) _ _
    (ap (option_map m.means) c.in-None.is) c.equality_rows-equality.ensures

pub returns-in-Some : goal.returns-in-Some
returns-in-Some g c =
    let m = g.L.Level in
    let b = c.args.batch.now in
    closing_challenged m.arithmetic (rows_of m b) (slot_of m b) (map m.means c.args.z.now) (kept_rows (opening_of m b.reduction)) _ _ _ _ _
    (ap (option_map m.means) c.in-Some.is) c.equality_rows-equality.ensures c.successor_share.ensures c.add.ensures
