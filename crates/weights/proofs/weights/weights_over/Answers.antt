use Rattle.std.proofs.Common.{◌≡◌, ◌<◌, length, sym, ap, ◌∙◌, subst, rules}
use Rattle.std.specs.Option.{option_map}
use Rattle.multilinear.specs.Lent.{lent}
use Rattle.weights.specs.Stepped.{stepped}
use Rattle.weights.proofs.Weighing.{weighed_plain, weighed_stepped}
use Rattle.weights.proofs.weights.weights_over.Goals as goal

pub returns-in_default-clause-weights : goal.returns-in_default-clause-weights
returns-in_default-clause-weights g c = λ i h.
    let m = g.L.Level in
    weighed_plain m.arithmetic _ _ _ (option_map m.means c.args.batch.now.alpha) i _ (ap (option_map m.means) c.in_default.is) (c.settled_weights.ensures.weights i h)

pub returns-in-Some-clause-weights : goal.returns-in-Some-clause-weights
returns-in-Some-clause-weights g c = λ i h.
    let m = g.L.Level in
    let size : length c.settled_weights.new.table ≡ length c.args.table.now = search rules in
    weighed_stepped m.arithmetic _ _ _ (option_map m.means c.args.batch.now.alpha) (m.means c.in-Some.alpha) (lent m.means c.settled_weights.new.table) (length c.args.table.now) i _
    (ap (option_map m.means) c.in-Some.is) h c.settled_weights.ensures.weights
    (c.combine_weights.ensures i (subst (λ n. i < n) (sym size) h)
    ∙ ap (λ r. stepped m.arithmetic r (m.means c.in-Some.alpha) (lent m.means c.settled_weights.new.table) i) c.columns.ensures)
