use Rattle.std.proofs.Common.{◌/◌, ◌^◌, ap, ◌∙◌}
use Rattle.byte_levels.specs.Rows.{selected}
use Rattle.byte_levels.proofs.TowerProducts.{tower_product}
use Rattle.byte_levels.proofs.tower.product.Goals as goal

pub returns : goal.returns
returns c =
    let rows = c.low_multiples-rows.ensures in
    tower_product c.args.a c.args.b _ c.combine-2.result _ c.ranges.a.fits c.ranges.b.fits c.combine-2.type_inv
    (c.combine.ensures ∙ ap (selected c.args.a) rows) (c.combine-2.ensures ∙ ap (selected (c.args.a / 2 ^ 4)) rows) c.times_x2.ensures
