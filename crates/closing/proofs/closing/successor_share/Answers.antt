use Rattle.std.proofs.Common.{ap, length, arith}
use lib.ListN.{length-map}
use Rattle.closing.proofs.Ends.{rows_within}
use Rattle.closing.proofs.closing.successor_share.Goals as goal

pub carry_element-requires-clause-within : goal.carry_element-requires-clause-within
carry_element-requires-clause-within g c =
    let m = g.L.Level in
    omega (arith, rows_within m g.met.L.Level.ring c.args.batch.now, c.columns-rows.ensures, ap length c.rest-slot.ensures.rest, length-map c.rest-slot.result.now m.means)

pub last_element-requires-clause-within : goal.last_element-requires-clause-within
last_element-requires-clause-within g c =
    let m = g.L.Level in
    omega (arith, rows_within m g.met.L.Level.ring c.args.batch.now, c.columns-rows.ensures, ap length c.rest-slot.ensures.rest, length-map c.rest-slot.result.now m.means)
