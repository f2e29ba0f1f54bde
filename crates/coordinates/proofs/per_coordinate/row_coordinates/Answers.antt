use Rattle.std.proofs.Common.{◌∙◌, arith, length-set}
use Rattle.coordinates.proofs.Numbers.{few}
use Rattle.coordinates.proofs.Transposed.{read_more}
use Rattle.coordinates.proofs.per_coordinate.row_coordinates.Goals as goal

pub loop-u-preserved : goal.loop-u-preserved
loop-u-preserved g c =
    let inv = c.loop-u.invariant in
    let u = c.loop-u.u in
    let inside = few g.L.Level.log u c.args.rows.narrow (omega (arith, c.args.rows.sized)) in (
      length-set _ _ _ ∙ inv.0,
      read_more g.L.Level.means _ _ u _ _ c.loop-u-test.true (omega (arith, inv.0)) c.row-item.is c.coordinates.ensures inv.1,
    )
