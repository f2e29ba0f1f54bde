use Rattle.std.proofs.Common.{◌+◌, ◌<◌, map, length, get_or, sym, ap, ◌∙◌, arith}
use lib.ListN.{length-map}
use Rattle.level.specs.Element.{zeros}
use Rattle.opening.proofs.Means.{means_at}
use Rattle.opening.proofs.Prefixes.{so_far_more, so_far_all, so_far_stops}
use Rattle.opening.proofs.prefix.leading_run.Goals as goal

pub loop-x-preserved : goal.loop-x-preserved
loop-x-preserved g c =
    let m = g.L.Level in
    let xs = c.args.point.now in
    let inv = c.loop-x.invariant in
    let h : c.loop-x.count < length xs = omega (arith, inv.0) in
    let bit = c.in-Some.ensures in
    let read = means_at m.means xs c.loop-x.x-index _ (zeros m.log) c.loop-x-test.true c.x-item.is in (
      ap (λ n. n + 1) inv.0,
      so_far_more m.arithmetic (map m.means xs) c.loop-x.count c.loop-x.address c.in-Some.bit _ (m.means c.x-item.result) (omega (arith, length-map xs m.means))
          (read ∙ ap (λ i. get_or (map m.means xs) i (zeros m.log)) (sym inv.0)) bit.0 bit.1 c.extended-address.ensures inv.1,
    )

pub returns-after-loop-x : goal.returns-after-loop-x
returns-after-loop-x g c =
    let m = g.L.Level in
    let xs = c.args.point.now in
    let inv = c.loop-x.invariant in
    let r = so_far_all m.arithmetic (map m.means xs) _ _ (omega (arith, length-map xs m.means, inv.0, c.loop-x-test.false)) inv.1 in
    record { count = r.0; address = r.1 }

pub returns-in_default : goal.returns-in_default
returns-in_default g c =
    let m = g.L.Level in
    let xs = c.args.point.now in
    let inv = c.loop-x.invariant in
    let read = means_at m.means xs c.loop-x.x-index _ (zeros m.log) c.loop-x-test.true c.x-item.is in
    let r = so_far_stops m.arithmetic (map m.means xs) c.loop-x.count _ _ (omega (arith, length-map xs m.means, inv.0, c.loop-x-test.true))
    (read ∙ ap (λ i. get_or (map m.means xs) i (zeros m.log)) (sym inv.0)) c.in_default.ensures inv.1 in
    record { count = r.0; address = r.1 }
