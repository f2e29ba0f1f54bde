use Rattle.std.proofs.Common.{◌≡◌, ◌<◌, ◌≤◌, arith}
use Rattle.multilinear.specs.Lent.{lent}
use Rattle.claims.proofs.ColumnWeights.{value_inside, value_across}
use Rattle.claims.proofs.successor.successor_claim.Goals as goal

pub returns-then-q-absorbed-clause-value : goal.returns-then-q-absorbed-clause-value
returns-then-q-absorbed-clause-value g c =
    let long : g.L.Level.log < c.args.q = omega (arith, c.if-q-absorbed.true, c.from-absorbed.ensures, c.log_width.ensures) in
    let all : g.L.Level.log < c.min.result = omega (arith, c.min.ensures, c.from-absorbed.ensures, c.log_width.ensures) in
    value_across g.L.Level.arithmetic (lent g.L.Level.means c.args.eq_low.elements.now) c.args.q c.min.result _ _ _ _ _ _ long all
    c.settled-settled.ensures.value c.rippled.ensures c.add.ensures

pub returns-else-q-absorbed-clause-value : goal.returns-else-q-absorbed-clause-value
returns-else-q-absorbed-clause-value g c =
    let short : c.args.q ≤ g.L.Level.log = omega (arith, c.if-q-absorbed.false, c.from-absorbed.ensures, c.log_width.ensures) in
    let own : c.min.result ≡ c.args.q = omega (arith, c.min.ensures, c.from-absorbed.ensures, c.log_width.ensures) in
    value_inside g.L.Level.arithmetic (lent g.L.Level.means c.args.eq_low.elements.now) c.args.q c.min.result _ _ _ _ short own
    c.settled-settled.ensures.value
