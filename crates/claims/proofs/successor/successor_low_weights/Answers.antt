use Rattle.std.proofs.Common.{◌≡◌, ◌<◌, ◌≢◌, length, ap, ◌∙◌, ap₂, arith, below_more}
use Rattle.level.specs.Element.{plus}
use Rattle.multilinear.specs.Lent.{lent}
use Rattle.multilinear.proofs.Lent.{lent_read, lent_written, lent_kept}
use Rattle.multilinear.specs.Columns.{starts, ends}
use Rattle.claims.proofs.ColumnWeights.{row_weighed}
use Rattle.claims.proofs.successor.successor_low_weights.Goals as goal

pub loop-v-preserved : goal.loop-v-preserved
loop-v-preserved g c =
    let m = g.L.Level.means in
    let v = c.loop-v.v in
    let xs = c.args.eq_low.now in
    let size : length c.loop-v.out ≡ length c.args.out.now = c.loop-v.auto.out in
    let inside : v < length c.loop-v.out = omega arith in
    let here : v < length xs = omega arith in
    let back : c.saturating_sub.result < length xs = omega (arith, c.saturating_sub.ensures) in
    below_more _ _
    (λ j h. let ne : j ≢ v = omega arith in lent_kept m c.loop-v.out v j c.add.result ne ∙ c.loop-v.invariant j h)
    (lent_written m c.loop-v.out v c.add.result inside
    ∙ row_weighed c.args.q (lent m xs) v _ _ _ _ _
    (lent_read m xs c.saturating_sub.result c.index-eq_low-saturating_sub.result back c.index-eq_low-saturating_sub.is ∙ ap (lent m xs) c.saturating_sub.ensures)
    (lent_read m xs v c.index-eq_low-v.result here c.index-eq_low-v.is)
    (c.starts-first.ensures ∙ ap (λ r. starts r v) c.new-columns.ensures) (c.ends-last.ensures ∙ ap (λ r. ends r v) c.new-columns.ensures)
    (c.add.ensures ∙ ap₂ plus c.where_set-before.ensures c.where_set-own.ensures))
