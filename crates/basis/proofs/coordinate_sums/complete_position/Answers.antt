use Rattle.std.proofs.Common.{◌<◌, length, sym, ap, ◌∙◌, ap₂, zero-add, arith, length-set}
use Rattle.level.specs.Element.{plus}
use Rattle.multilinear.specs.Lent.{lent}
use Rattle.multilinear.proofs.Lent.{lent_written, lent_kept}
use Rattle.basis.proofs.CompletedTables.{begun_none, begun_more, begun_all}
use Rattle.basis.proofs.coordinate_sums.complete_position.Goals as goal

pub loop-subset-init : goal.loop-subset-init
loop-subset-init g c = begun_none _ 0 (lent_written g.L.Level.means c.args.table.now 0 _ (omega arith) ∙ c.zero.ensures)

pub loop-subset-preserved : goal.loop-subset-preserved
loop-subset-preserved g c =
    let means = g.L.Level.means in
    let s = c.loop-subset.subset in
    let xs = c.loop-subset.table in
    let n = length-set c.args.table.now 0 c.zero.result in
    let h : s < length xs = omega arith in
    let made = c.extended.ensures ∙ ap₂ plus (ap (lent means xs) (sym (zero-add _))) (ap (lent means xs) (sym (zero-add _))) in
    begun_more _ (lent means xs) _ 0 s _ (omega arith) c.loop-subset-test.true c.loop-subset.invariant made
    (ap (lent means _) (zero-add s) ∙ lent_written means xs s _ h) (λ i ne. lent_kept means xs s i _ (λ e. ne (e ∙ sym (zero-add s))))

pub returns : goal.returns
returns g c =
    begun_all _ _ _ 0 c.loop-subset.subset (omega arith) c.loop-subset-test.false
    (λ i ne. lent_kept g.L.Level.means c.args.table.now 0 i _ ne) c.loop-subset.invariant
