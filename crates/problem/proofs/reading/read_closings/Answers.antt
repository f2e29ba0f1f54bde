use Rattle.std.proofs.Common.{[], map, vec_items, Vec, sym, arith}
use lib.ListN.{length-map}
use Rattle.std.proofs.lemmas.List.{get_or-map}
use Rattle.std.specs.declared.alloc.Global.{Global}
use Rattle.multilinear.specs.Equality.{Point}
use Rattle.problem.proofs.Points.{each_more}
use Rattle.problem.proofs.reading.read_closings.Goals as goal

pub loop-text-preserved : goal.loop-text-preserved
loop-text-preserved g c =
    let f : Vec g.row.L.Denot Global → Point g.L.Level.log = λ v. map g.L.Level.means (vec_items v) in
    let texts = c.args.texts.now in
    let i = c.loop-text.text-index in
    each_more f (map (λ x. x.now) texts) (vec_items c.loop-text.closings) i (vec_items c.push.new.self) c.in_ok-read_elements.field-0 _
    (omega (arith, length-map texts (λ x. x.now), c.loop-text-test.true)) (sym (get_or-map (λ x. x.now) texts i _ [] c.loop-text-test.true))
    c.in_ok-push.ensures.items c.in_ok-read_elements.ensures c.loop-text.invariant
