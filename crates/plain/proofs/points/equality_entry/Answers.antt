use Rattle.std.proofs.Common.{ap, ◌∙◌}
use Rattle.plain.proofs.Entry.{factored_none, factored_more}
use Rattle.plain.proofs.points.equality_entry.Goals as goal

pub loop-x-init : goal.loop-x-init
loop-x-init g c =
    let m = g.L.Level in
    let all = ap (λ r. r.iter.rest.now) c.into_iter-x-iterator.ensures.into_iter_gives ∙ ap (λ i. i.rest.now) c.rev-x-items.ensures.source ∙ c.iter.ensures.rest in
    factored_none m.arithmetic m.means c.args.point.now c.args.index _ _ all c.one-product.ensures

pub loop-x-preserved : goal.loop-x-preserved
loop-x-preserved g c =
    let m = g.L.Level in
    let f = c.coordinate_factor.ensures in
    factored_more m.arithmetic m.means c.args.point.now c.args.index _ _ _ _ _ _ _ c.loop-x.invariant c.in-Some.ensures.steps f.at_one f.at_zero c.mul-product.ensures
