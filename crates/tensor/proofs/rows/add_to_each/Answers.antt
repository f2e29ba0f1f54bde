use Rattle.std.proofs.Common.{arith}
use Rattle.tensor.proofs.Turns.{halved, chosen_more, picked_all}
use Rattle.tensor.proofs.rows.add_to_each.Goals as goal

pub loop-row-preserved : goal.loop-row-preserved
loop-row-preserved g c =
    let means = g.L.Level.means in
    let inv = c.loop-row.invariant in (
      halved c.args.coordinates c.loop-row.row-index _ inv.0,
      chosen_more means c.args.coordinates (means c.args.b) c.args.rows.now c.loop-row.rows c.loop-row.row-index c.loop-row.rest _ _
          (omega (arith, c.loop-row.auto.rows)) c.add_where.ensures inv.0 inv.1,
    )

pub returns : goal.returns
returns g c = λ i h.
    picked_all g.L.Level.means c.args.coordinates (g.L.Level.means c.args.b) c.args.rows.now c.loop-row.rows c.loop-row.row-index i (omega arith)
    c.loop-row.invariant.1
