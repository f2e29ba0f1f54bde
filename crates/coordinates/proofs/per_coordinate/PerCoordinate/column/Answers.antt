use Rattle.std.proofs.Common.{◌+◌, ◌*◌, ◌/◌, ◌%◌, ◌^◌, ◌∙◌, ap, arith, rules}
use Rattle.coordinates.proofs.Numbers.{few}
use Rattle.coordinates.proofs.Columns.{gathered_none, gathered_fits, gathered_more, gathered_all}
use Rattle.coordinates.proofs.per_coordinate.PerCoordinate.column.Goals as goal

pub loop-u-init : goal.loop-u-init
loop-u-init g c = search (rules, gathered_none)

pub with_coordinate-column-requires : goal.with_coordinate-column-requires
with_coordinate-column-requires g c =
    let k = g.L.Level.log in
    let place = few k c.loop-u.u c.args.self.narrow (omega (arith, c.args.self.sized)) in
    let fits = gathered_fits g.L.Level.means c.args.self.elements.now c.args.v c.loop-u.u _ c.loop-u.invariant in
    (place, (fits, omega (arith, c.coordinate.ensures)))

pub loop-u-preserved : goal.loop-u-preserved
loop-u-preserved g c =
    let made = c.with_coordinate-column.ensures
    ∙ ap (λ n. c.loop-u.column + n * 2 ^ c.loop-u.u) (c.coordinate.ensures ∙ ap (λ n. n / 2 ^ c.args.v % 2) c.coordinates.ensures) in
    search (rules, gathered_more)

pub returns : goal.returns
returns g c = search (rules, gathered_all)
