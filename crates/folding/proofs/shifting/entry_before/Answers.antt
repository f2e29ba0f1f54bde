use Rattle.std.proofs.Common.{not, sym, ap, ◌∙◌, arith}
use Rattle.multilinear.proofs.Lent.{lent_read}
use Rattle.tensor_algebra.proofs.Kept.{where_in, where_out}
use Rattle.folding.proofs.shifting.entry_before.Goals as goal

pub returns-then-starts : goal.returns-then-starts
returns-then-starts g c =
    c.zero.ensures ∙ sym (where_out _ _ (ap not (sym c.starts.ensures ∙ c.if-starts.true)))

pub returns-else-starts : goal.returns-else-starts
returns-else-starts g c =
    lent_read g.L.Level.means c.args.inner.now _ _ (omega arith) c.index-inner-j.is
    ∙ sym (where_in _ _ (ap not (sym c.starts.ensures ∙ c.if-starts.false)))
