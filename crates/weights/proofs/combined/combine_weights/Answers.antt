use Rattle.std.proofs.Common.{◌≡◌, ◌+◌, ◌-◌, ◌*◌, ◌/◌, ◌^◌, ◌<◌, ◌≤◌, length, ap, subst, arith, rules, mul-le-mul_right, div-mul-le_self}
use prog.Memory.{size}
use denote.Param.{layout}
use Rattle.multilinear.specs.Lent.{lent}
use Rattle.weights.specs.Stepped.{stepped}
use Rattle.weights.proofs.Combining.{column_more, columns_all}
use Rattle.weights.proofs.combined.combine_weights.Goals as goal

pub offset_bounds-table-start : goal.offset_bounds-table-start
offset_bounds-table-start g c =
    let within : c.loop-column.column * c.length-length.result ≤ length c.args.table.now / c.length-length.result * c.length-length.result =
    mul-le-mul_right c.length-length.result (omega arith) in
    let inside : c.loop-column.column * c.length-length.result ≤ length c.args.table.now =
    omega (arith, div-mul-le_self (length c.args.table.now) c.length-length.result) in
    omega (arith, mul-le-mul_right (size (layout g.row.L)) inside, c.well_formed.0.1)

pub loop-column-preserved : goal.loop-column-preserved
loop-column-preserved g c =
    let m = g.L.Level.means in
    let r = c.args.columns.row_variables in
    let n = length c.args.table.now in
    let below : c.loop-column.column < n / 2 ^ r = subst (λ w. c.loop-column.column < n / w) c.length-length.ensures c.loop-column-test.true in
    let start = c.loop-column.column * c.length-length.result in
    let start-is : start ≡ c.loop-column.column * 2 ^ r = ap (λ w. c.loop-column.column * w) c.length-length.ensures in
    column_more m g.L.Level.arithmetic r c.loop-column.column start (start + c.length-length.result - start) (m c.args.alpha) _ c.args.table.now c.loop-column.table
    c.combine_column.new.column start-is (omega arith) c.mul-alpha_squared.ensures below (search rules) c.combine_column.auto.column c.combine_column.ensures c.loop-column.invariant

pub returns : goal.returns
returns g c =
    let r = c.args.columns.row_variables in
    let n = length c.args.table.now in
    let m = g.L.Level.means in
    let f = stepped g.L.Level.arithmetic r (m c.args.alpha) (lent m c.args.table.now) in
    columns_all m g.L.Level.arithmetic r c.loop-column.column f c.args.table.now c.loop-column.table c.requires
    (subst (λ w. n / w ≤ c.loop-column.column) c.length-length.ensures c.loop-column-test.false) c.loop-column.invariant
