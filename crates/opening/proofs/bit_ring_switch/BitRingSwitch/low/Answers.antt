use Rattle.std.proofs.Common.{◌≡◌, ◌-◌, map, length, ap, ◌∙◌}
use lib.ListN.{length-map}
use Rattle.opening.proofs.Prefixes.{low_is_part}
use Rattle.opening.proofs.bit_ring_switch.BitRingSwitch.low.Goals as goal

pub returns-clause-low : goal.returns-clause-low
returns-clause-low g c =
    let m = g.L.Level in
    let xs = c.args.self.now.point.now in
    rw c.split_at.ensures.back (low_is_part m.arithmetic m.means xs c.args.self.now.view _ (c.num_variables.ensures ∙ ap (λ n. n - m.log) (length-map xs m.means)))
