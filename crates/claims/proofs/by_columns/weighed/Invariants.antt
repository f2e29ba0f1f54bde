use Rattle.std.proofs.Common.{◌≡◌}
use Rattle.coordinates.proofs.Batched.{batched}
use Rattle.claims.proofs.by_columns.weighed.Given as goal

abbrev pub invariant-loop-v : goal.invariant-loop-v
invariant-loop-v g l = let m = g.L.Level in m.means l.sum ≡ batched m.means m.arithmetic l.columns.elements.now l.weights.elements.now l.v
