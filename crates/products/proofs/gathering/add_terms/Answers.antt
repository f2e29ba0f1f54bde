use Rattle.std.proofs.Common.{sym, arith}
use Rattle.multilinear.specs.Lent.{lent}
use Rattle.multilinear.proofs.Lent.{lent_read}
use Rattle.products.proofs.Adding.{bucketed_none, bucketed_more}
use Rattle.products.proofs.gathering.add_terms.Goals as goal

pub loop-w-init : goal.loop-w-init
loop-w-init g c = bucketed_none _ _ _ c.requires.empty

pub loop-w-preserved : goal.loop-w-preserved
loop-w-preserved g c =
    let f = g.L.Level.means in
    let w = c.loop-w.w in
    bucketed_more _ _ w _ _ (lent f c.loop-w.buckets) (lent f c.add_term.new.buckets)
    (sym (lent_read f c.args.left.now w _ (omega arith) c.index-left-w.is))
    (sym (lent_read f c.args.right.now w _ (omega arith) c.index-right-w.is)) c.add_term.ensures c.loop-w.invariant
