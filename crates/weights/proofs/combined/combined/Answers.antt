use Rattle.std.proofs.Common.{◌≡◌, ◌-◌, not, eqb, length, ap, ◌∙◌, arith}
use Rattle.level.specs.Element.{plus}
use Rattle.multilinear.specs.Lent.{lent}
use Rattle.multilinear.specs.Sums.{where_set}
use Rattle.multilinear.proofs.Lent.{lent_read}
use Rattle.weights.proofs.Combining.{with_before, without_before, with_own, without_own}
use Rattle.weights.proofs.combined.combined.Goals as goal
use Rattle.weights.proofs.combined.combined.Goals.{then-row-ne0, else-row-ne0}

pub returns-then-row-column : goal.returns-then-row-column
returns-then-row-column g c =
    let m = g.L.Level.means in
    let A = g.L.Level.arithmetic in
    let s = lent m c.args.column.now in
    let i = c.args.row in
    let own : m c.index-column-row.result ≡ s i = lent_read m c.args.column.now i _ (omega arith) c.index-column-row.is in
    let carried : m c.if-row-ne0.value ≡ plus (s i) (where_set (not (eqb i 0)) (A.times (m c.args.alpha) (s (i - 1)))) =
    elim c.if-row-ne0.branch [
      | then-row-ne0 w ↦
          ap m w.value-is ∙ with_before A (m c.args.alpha) s i _ _ _ _ w.if-row-ne0.true own
          (lent_read m c.args.column.now (i - 1) _ (omega arith) w.index-column-row-then-row-ne0.is) w.mul.ensures w.add-value.ensures
      | else-row-ne0 w ↦ ap m w.value-is ∙ without_before A (m c.args.alpha) s i _ w.if-row-ne0.false own
    ] in
    with_own A (length c.args.column.now) (m c.args.alpha) (m c.args.alpha_squared) s i _ _ _ _ c.if-row-column.true own carried
    c.mul-then-row-column.ensures c.add-value-then-row-column.ensures

pub returns-else-row-column : goal.returns-else-row-column
returns-else-row-column g c =
    let m = g.L.Level.means in
    let A = g.L.Level.arithmetic in
    let s = lent m c.args.column.now in
    let i = c.args.row in
    let own : m c.index-column-row.result ≡ s i = lent_read m c.args.column.now i _ (omega arith) c.index-column-row.is in
    let carried : m c.if-row-ne0.value ≡ plus (s i) (where_set (not (eqb i 0)) (A.times (m c.args.alpha) (s (i - 1)))) =
    elim c.if-row-ne0.branch [
      | then-row-ne0 w ↦
          ap m w.value-is ∙ with_before A (m c.args.alpha) s i _ _ _ _ w.if-row-ne0.true own
          (lent_read m c.args.column.now (i - 1) _ (omega arith) w.index-column-row-then-row-ne0.is) w.mul.ensures w.add-value.ensures
      | else-row-ne0 w ↦ ap m w.value-is ∙ without_before A (m c.args.alpha) s i _ w.if-row-ne0.false own
    ] in
    without_own A (length c.args.column.now) (m c.args.alpha) (m c.args.alpha_squared) s i _ c.if-row-column.false carried
