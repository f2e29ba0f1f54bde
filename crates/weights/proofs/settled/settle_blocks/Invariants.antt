use Rattle.std.proofs.Common.{◌≡◌, ℕ, ◌*◌, ◌<◌, length}
use Rattle.multilinear.specs.Lent.{lent}
use Rattle.weights.specs.Settled.{through}
use Rattle.weights.proofs.settled.settle_blocks.Given as goal

abbrev pub invariant-loop-block : goal.invariant-loop-block
invariant-loop-block g l =
    let m = g.L.Level in
    (j : ℕ) → j < l.block * length l.equality.inner.now → lent m.means l.table j ≡ through m l.equality (lent m.means l.sums.tables.now) j
