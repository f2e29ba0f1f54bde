use Rattle.plain.proofs.SetCoordinates.{subset_all}
use Rattle.multilinear.specs.Lent.{lent}
use Rattle.std.proofs.Common.{rules}
use Rattle.plain.proofs.subsets.subset_sum.Goals as goal

pub returns : goal.returns
returns g c =
    let m = g.L.Level in
    let xs = c.args.weights.elements.now in
    subset_all (lent m.means xs) _ c.coordinates-set.result _ _ c.coordinates-set.ensures c.args.weights.sized
    (c.sum_of.ensures _ (λ u x h e. search rules))
