use Rattle.multilinear.specs.Lent.{lent}
use Rattle.products.proofs.Halving.{Halving}
use Rattle.products.proofs.reading.halve.Given as goal

abbrev pub invariant-loop-s : goal.invariant-loop-s
invariant-loop-s g l =
    let m = g.L.Level in
    Halving l.s (lent m.means l.upper) (lent m.means l.initial.lower) (lent m.means l.lower) (m.means l.sum)
