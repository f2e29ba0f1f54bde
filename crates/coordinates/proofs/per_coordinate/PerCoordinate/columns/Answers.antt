use Rattle.std.proofs.Common.{◌^◌, ◌≤◌, length, arith, rules, pow_mono}
use Rattle.multilinear.proofs.Places.{written_more}
use Rattle.coordinates.proofs.Transposed.{column_from, columns_all}
use Rattle.coordinates.proofs.per_coordinate.PerCoordinate.columns.Goals as goal

pub loop-v-preserved : goal.loop-v-preserved
loop-v-preserved g c =
    let means = g.L.Level.means in
    let v = c.loop-v.v in
    let narrow : 2 ^ g.L.Level.log ≤ 128 = pow_mono c.args.self.narrow in
    written_more means _ _ _ v _ (omega (arith, c.loop-v.auto.out))
    (column_from means c.args.self.elements.now c.row_coordinates-source.result v (length c.args.out.now) _ _ c.requires
    (omega (arith, c.requires, c.row_coordinates-source.type_inv)) c.row_coordinates-source.ensures
    c.gather.ensures c.from_coordinates.ensures)
    c.loop-v.invariant

pub returns : goal.returns
returns g c = search (rules, columns_all)
