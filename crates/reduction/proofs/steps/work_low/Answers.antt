use Rattle.std.proofs.Common.{◌≡◌, length, arith, sym, ◌∙◌, subst, subst₂}
use Rattle.level.specs.Element.{width}
use Rattle.ring_switch.specs.Opening.{low}
use Rattle.equality.specs.Tables.{Tabulated}
use Rattle.reduction.specs.Layout.{low_start}
use Rattle.reduction.specs.Stretch.{Fits, opening_at}
use Rattle.reduction.proofs.Cut.{whole}
use Rattle.reduction.proofs.Standing.{point_read}
use Rattle.reduction.proofs.steps.work_low.Goals as goal

pub low_table-requires-clause-fits : goal.low_table-requires-clause-fits
low_table-requires-clause-fits g c =
    let m = g.L.Level in
    subst (Fits m c.args.opened)
    (sym (point_read m c.args.layout.variables c.args.opened (low_start m.log c.args.layout.variables) _ _ _ c.args.memory.now c.requires.stands.within (omega arith)
    c.point_in.ensures.point c.split_at_mut-held.ensures.front c.low_start.ensures))
    c.requires.stands.fits

pub returns-clause-low : goal.returns-clause-low
returns-clause-low g c =
    let m = g.L.Level in
    let C = c.args.layout.variables in
    let s = low_start m.log C in
    let point = point_read m C c.args.opened s _ _ _ c.args.memory.now c.requires.stands.within (omega arith) c.point_in.ensures.point c.split_at_mut-held.ensures.front c.low_start.ensures in
    let rows = c.low_table.auto.table ∙ c.split_at_mut-table.ensures.front_len ∙ c.width.ensures in
    subst₂ (λ xs t. Tabulated m.means m.arithmetic m.arithmetic.unit (low (opening_at m c.args.opened xs)) t) point
    (sym (whole s (width m.log) _ c.low_table.new.table _ (c.split_at_mut-held.ensures.front_len ∙ c.low_start.ensures) rows))
    c.low_table.ensures
