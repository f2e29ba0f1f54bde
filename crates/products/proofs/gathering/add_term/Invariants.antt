use Rattle.multilinear.specs.Lent.{lent}
use Rattle.products.proofs.Adding.{Adding}
use Rattle.products.proofs.gathering.add_term.Given as goal

abbrev pub invariant-loop-j : goal.invariant-loop-j
invariant-loop-j g l =
    let m = g.L.Level in
    Adding l.value-items (m.means l.b) l.j (lent m.means l.initial.buckets) (lent m.means l.buckets)
