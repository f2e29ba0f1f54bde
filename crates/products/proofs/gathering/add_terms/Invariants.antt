use Rattle.multilinear.specs.Lent.{lent}
use Rattle.products.specs.Buckets.{Bucketed}
use Rattle.products.proofs.gathering.add_terms.Given as goal

abbrev pub invariant-loop-w : goal.invariant-loop-w
invariant-loop-w g l =
    let m = g.L.Level in
    Bucketed (lent m.means l.left) (lent m.means l.right) l.w (lent m.means l.buckets)
