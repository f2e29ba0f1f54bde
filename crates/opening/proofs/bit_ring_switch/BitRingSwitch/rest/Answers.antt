use Rattle.std.proofs.Common.{◌≡◌, ◌-◌, ◌≤◌, map, length, ap, arith}
use lib.ListN.{length-map}
use Rattle.ring_switch.proofs.SlotPrefix.{prefix_selected}
use Rattle.opening.specs.Openings.{opening_of}
use Rattle.opening.proofs.Prefixes.{rest_is_part}
use Rattle.opening.proofs.bit_ring_switch.BitRingSwitch.rest.Goals as goal

pub split_at-requires : goal.split_at-requires
split_at-requires g c =
    let m = g.L.Level in
    let o = opening_of m c.args.self.now in
    omega (arith, (prefix_selected g.met.L.Level.ring o).within, c.args.self.now.counted, ap length c.high.ensures.high, length-map c.high.result.now m.means)

pub returns-clause-rest : goal.returns-clause-rest
returns-clause-rest g c =
    let m = g.L.Level in
    rw c.split_at.ensures.back (rest_is_part m.arithmetic m.means _ (opening_of m c.args.self.now) _ c.args.self.now.counted c.high.ensures.high)
