use Rattle.equality.proofs.Factoring.{factors_written}
use Rattle.equality.proofs.factored.factor.Goals as goal

pub returns : goal.returns
returns g c =
    let m = g.L.Level in
    factors_written m.means m.arithmetic c.args.point.now _ _ _ _ _ _ c.halves.ensures.outer c.halves.ensures.inner c.one.ensures
    c.equality_table.ensures c.equality_table-2.ensures
