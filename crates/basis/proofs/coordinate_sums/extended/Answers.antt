use Rattle.std.proofs.Common.{◌∙◌, ap, ap₂, arith}
use lib.Bits.{and_le_r}
use Rattle.level.specs.Element.{plus}
use Rattle.multilinear.specs.Lent.{lent}
use Rattle.multilinear.proofs.Lent.{lent_read}
use Rattle.basis.proofs.coordinate_sums.extended.Goals as goal

pub returns : goal.returns
returns g c =
    let means = g.L.Level.means in
    let table = c.args.table.now in
    let rest = lent_read means table _ _ (omega (arith, and_le_r c.args.subset)) c.index-table-without_lowest.is in
    let alone = lent_read means table _ _ (omega arith) c.index-table-lowest.is in
    c.add.ensures ∙ ap₂ plus (rest ∙ ap (lent means table) c.without_lowest.ensures) (alone ∙ ap (lent means table) c.lowest.ensures.power)
