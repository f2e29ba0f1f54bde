use Rattle.std.proofs.Common.{◌≡◌, ◌≤◌, length, take, sym, ap, ◌∙◌, arith, length-take}
use Rattle.opening.proofs.Prefixes.{limit_within, prefix_is_run}
use Rattle.opening.proofs.bit_ring_switch.BitRingSwitch.with_view.Goals as goal

pub slice_bounds-leading_run-end : goal.slice_bounds-leading_run-end
slice_bounds-leading_run-end g c =
    let xs = c.args.point.now in
    omega (arith, length-take c.prefix_limit.result xs, limit_within g.L.Level.log (length xs) c.args.view, c.prefix_limit.ensures)

pub invariant_of-result-clause-counted : goal.invariant_of-result-clause-counted
invariant_of-result-clause-counted g c =
    let m = g.L.Level in
    c.leading_run-prefix.ensures.count
    ∙ ap (λ r. r.count) (prefix_is_run m.arithmetic m.means c.args.point.now c.args.view c.prefix_limit.result c.prefix_limit.ensures)

pub invariant_of-result-clause-spelt : goal.invariant_of-result-clause-spelt
invariant_of-result-clause-spelt g c =
    let m = g.L.Level in
    c.leading_run-prefix.ensures.address
    ∙ ap (λ r. r.address) (prefix_is_run m.arithmetic m.means c.args.point.now c.args.view c.prefix_limit.result c.prefix_limit.ensures)
