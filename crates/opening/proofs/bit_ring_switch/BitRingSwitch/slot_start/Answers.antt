use Rattle.std.proofs.Common.{◌≡◌, ◌+◌, ◌*◌, ◌%◌, ◌^◌, ◌<◌, map, length, ap, ◌∙◌, mod-eq_of_lt, arith}
use lib.ListN.{length-map}
use Rattle.ring_switch.proofs.SlotPrefix.{high_length, prefix_selected}
use Rattle.ring_switch.proofs.SlotTensors.{slot}
use Rattle.opening.specs.Openings.{opening_of}
use Rattle.opening.proofs.Prefixes.{slot_starts, address_fits}
use Rattle.opening.proofs.bit_ring_switch.BitRingSwitch.slot_start.Goals as goal

pub returns-clause-start : goal.returns-clause-start
returns-clause-start g c =
    let m = g.L.Level in
    let s = c.args.self.now in
    let o = opening_of m s in
    let l = length c.rest.result.now in
    let e = length-map c.rest.result.now m.means in
    let p = prefix_selected g.met.L.Level.ring o in
    let fits : s.prefix.1 < 2 ^ s.prefix.0 = rw (s.counted, s.spelt) p.fits in
    let few : s.prefix.0 + l < 64 = omega (arith, c.rest.ensures.len, s.few, s.absorbs, s.counted, p.within, high_length o, length-map s.point.now m.means) in
    mod-eq_of_lt (address_fits s.prefix.1 s.prefix.0 l fits few) ∙ slot_starts m.arithmetic o s.prefix.1 l s.spelt (omega (arith, e, ap length c.rest.ensures.rest))

pub returns-clause-within : goal.returns-clause-within
returns-clause-within g c =
    let m = g.L.Level in
    rw (returns-clause-start g c) ((slot g.met.L.Level.ring (opening_of m c.args.self.now)).within)
