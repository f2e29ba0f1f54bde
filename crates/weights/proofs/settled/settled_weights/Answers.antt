use Rattle.std.proofs.Common.{sym, subst, ◌∙◌}
use Rattle.multilinear.specs.Lent.{lent}
use Rattle.basis.specs.Tables.{Tabulated}
use Rattle.weights.proofs.Settling.{through_settled}
use Rattle.weights.proofs.settled.settled_weights.Goals as goal

pub returns-clause-weights : goal.returns-clause-weights
returns-clause-weights g c = λ i h.
    let m = g.L.Level in
    let f = lent m.means c.args.eq_batch.elements.now in
    c.settle_blocks.ensures i h
    ∙ through_settled m c.args.equality.now g.met.L.Level.ring f _ i (subst (λ xs. Tabulated f (lent m.means xs)) (sym c.new.ensures) c.tabulate.ensures)
