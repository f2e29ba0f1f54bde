use Rattle.weights.proofs.Combining.{Combined}
use Rattle.weights.proofs.combined.combine_column.Given as goal

abbrev pub invariant-loop-row : goal.invariant-loop-row
invariant-loop-row g l =
    let m = g.L.Level.means in
    Combined m g.L.Level.arithmetic (m l.alpha) (m l.alpha_squared) l.initial.column l.column l.row
