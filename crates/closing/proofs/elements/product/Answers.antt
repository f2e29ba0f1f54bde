use Rattle.std.proofs.Common.{length, arith}
use Rattle.std.proofs.lemmas.Iterator.Adapters.{YieldsList-from_rev_slice}
use Rattle.std.proofs.lemmas.Iterator.Consumers.{YieldsList-turn, YieldsList-end}
use Rattle.std.proofs.lemmas.List.{length-reverse, length_push}
use Rattle.closing.proofs.Parts.{product_none, product_more, product_all}
use Rattle.closing.proofs.elements.product.Goals as goal

pub loop-x-init : goal.loop-x-init
loop-x-init g c = product_none _ _ c.args.point.now _ _ (omega arith) c.one-product.ensures

pub loop-x-preserved : goal.loop-x-preserved
loop-x-preserved g c =
    let xs = c.args.point.now in
    let t = YieldsList-turn (YieldsList-from_rev_slice {s = c.into_iter-x-iterator.result} xs cc) c.loop-x.yielded c.loop-x.x-iterator c.loop-x.yielded_by _ c.next.new.self c.in-Some.x c.in-Some.is c.next.ensures.steps in
    product_more _ _ xs (length c.loop-x.yielded) _ _ _ _ (length_push c.loop-x.yielded c.in-Some.x) t.0 t.1 c.mul-product.ensures c.loop-x.invariant

pub returns : goal.returns
returns g c =
    let xs = c.args.point.now in
    let t = YieldsList-end (YieldsList-from_rev_slice {s = c.into_iter-x-iterator.result} xs cc) c.loop-x.yielded c.loop-x.x-iterator c.loop-x.yielded_by _ c.next.new.self c.in-None.is c.next.ensures.steps in
    product_all _ _ xs _ _ (omega (arith, t.1, length-reverse xs)) c.loop-x.invariant
