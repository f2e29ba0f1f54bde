use Rattle.std.proofs.Common.{length, sym, ◌∙◌, ap, arith, rules}
use Rattle.std.proofs.lemmas.List.{length_push}
use Rattle.std.proofs.lemmas.Slice.Zip.{zip_turn, zip_end}
use Rattle.level.specs.Element.{plus}
use Rattle.coordinates.proofs.Batched.{batched, batched_none, batched_more, batched_all}
use Rattle.coordinates.proofs.per_coordinate.PerCoordinate.batch_rows.Goals as goal

pub loop-row-init : goal.loop-row-init
loop-row-init g c = search (rules, batched_none)

pub loop-row-preserved : goal.loop-row-preserved
loop-row-preserved g c =
    let m = g.L.Level in
    let ws = c.args.weights.elements.now in
    let xs = c.args.self.elements.now in
    let t = zip_turn xs ws c.loop-row.yielded c.into_iter-row-iterator.result c.loop-row.row-iterator c.next.new.self _ (cc) (cc) c.loop-row.yielded_by _ c.in-Some.is c.next.ensures.steps in
    batched_more m.means m.arithmetic ws xs (length c.loop-row.yielded) _ _ _ _ t.1 t.0 (t.3 _) (t.2 _) (c.add-sum.ensures ∙ ap (plus _) c.mul.ensures) c.loop-row.invariant
    ∙ ap (batched m.means m.arithmetic ws xs) (sym (length_push c.loop-row.yielded _))

pub returns : goal.returns
returns g c =
    let m = g.L.Level in
    let ws = c.args.weights.elements.now in
    let xs = c.args.self.elements.now in
    let t = zip_end xs ws c.loop-row.yielded c.into_iter-row-iterator.result c.loop-row.row-iterator c.next.new.self _ (cc) (cc) c.loop-row.yielded_by c.in-None.is c.next.ensures.steps in
    batched_all m.means m.arithmetic ws xs (length c.loop-row.yielded) _ c.args.self.sized (omega arith) (omega arith) c.loop-row.invariant
