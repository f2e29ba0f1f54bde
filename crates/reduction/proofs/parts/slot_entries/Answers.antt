use Rattle.std.proofs.Common.{◌≡◌, ◌%◌, ◌-◌, ◌^◌, ◌<◌, ◌≤◌, map, length, ap, arith, pow_mono, mod-eq_of_lt}
use lib.ListN.{length-map}
use Rattle.reduction.proofs.parts.slot_entries.Goals as goal

pub returns-clause-within : goal.returns-clause-within
returns-clause-within g c =
    let m = g.L.Level in
    let xs = c.args.reduction.now.point.now in
    let e : length c.rest.result.now ≤ length xs - m.log = omega (arith, c.rest.ensures.len, length-map xs m.means) in
    let p : 2 ^ length c.rest.result.now ≤ 2 ^ (length xs - m.log) = pow_mono e in
    omega (arith, p)
