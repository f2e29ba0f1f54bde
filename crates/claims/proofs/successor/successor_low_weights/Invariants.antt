use Rattle.std.proofs.Common.{◌≡◌, ℕ, ◌<◌}
use Rattle.multilinear.specs.Lent.{lent}
use Rattle.ring_switch.specs.Claims.{inside}
use Rattle.claims.proofs.successor.successor_low_weights.Given as goal

abbrev pub invariant-loop-v : goal.invariant-loop-v
invariant-loop-v g l = (v : ℕ) → v < l.v → lent g.L.Level.means l.out v ≡ inside (lent g.L.Level.means l.eq_low) l.q v
