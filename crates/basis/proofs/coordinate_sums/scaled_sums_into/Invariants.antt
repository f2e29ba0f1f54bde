use Rattle.multilinear.specs.Lent.{lent}
use Rattle.basis.specs.Tables.{scaled_weights}
use Rattle.basis.proofs.CompletedTables.{Placed}
use Rattle.basis.proofs.coordinate_sums.scaled_sums_into.Given as goal

abbrev pub invariant-loop-coordinate : goal.invariant-loop-coordinate
invariant-loop-coordinate g l =
    let m = g.L.Level in
    Placed (scaled_weights m.arithmetic (lent m.means l.sums.tables.now) (m.means l.scale)) (lent m.means l.out) l.coordinate
