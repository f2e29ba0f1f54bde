use Rattle.multilinear.specs.Lent.{lent}
use Rattle.equality.proofs.Widening.{Widening}
use Rattle.equality.proofs.table.widen.Given as goal

abbrev pub invariant-loop-i : goal.invariant-loop-i
invariant-loop-i g l =
    let m = g.L.Level in
    Widening m.arithmetic (m.means l.x) l.i (lent m.means l.initial.low) (lent m.means l.initial.high) (lent m.means l.low) (lent m.means l.high)
