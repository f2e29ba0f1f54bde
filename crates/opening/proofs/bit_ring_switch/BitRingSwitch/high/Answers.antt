use Rattle.std.proofs.Common.{◌≡◌, ◌-◌, map, length, ap, ◌∙◌}
use lib.ListN.{length-map}
use Rattle.opening.proofs.Prefixes.{high_is_part}
use Rattle.opening.proofs.bit_ring_switch.BitRingSwitch.high.Goals as goal

pub returns-clause-high : goal.returns-clause-high
returns-clause-high g c =
    let m = g.L.Level in
    let xs = c.args.self.now.point.now in
    high_is_part m.arithmetic m.means xs c.args.self.now.view _ (c.num_variables.ensures ∙ ap (λ n. n - m.log) (length-map xs m.means))
