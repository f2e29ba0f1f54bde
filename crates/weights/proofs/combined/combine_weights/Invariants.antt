use Rattle.std.proofs.Common.{◌*◌, ◌^◌}
use Rattle.multilinear.specs.Lent.{lent}
use Rattle.multilinear.proofs.Places.{Written}
use Rattle.weights.specs.Stepped.{stepped}
use Rattle.weights.proofs.combined.combine_weights.Given as goal

abbrev pub invariant-loop-column : goal.invariant-loop-column
invariant-loop-column g l =
    let m = g.L.Level.means in
    let r = l.fn.columns.row_variables in
    Written m (stepped g.L.Level.arithmetic r (m l.alpha) (lent m l.initial.table)) l.initial.table l.table (l.column * 2 ^ r)
