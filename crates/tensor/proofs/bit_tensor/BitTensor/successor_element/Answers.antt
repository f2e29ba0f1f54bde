use Rattle.std.proofs.Common.{◌-◌, ◌++◌, [], ◌∷◌, length, arith, rules}
use Rattle.std.proofs.lemmas.Iterator.{YieldsList-from_zip}
use Rattle.std.proofs.lemmas.Iterator.Adapters.{YieldsList-from_rev_slice}
use Rattle.std.proofs.lemmas.Iterator.Consumers.{YieldsList-turn}
use Rattle.std.proofs.lemmas.List.{length_push}
use Rattle.tensor.proofs.Folds.{folded_none, folded_more, from_last}
use Rattle.tensor.proofs.bit_tensor.BitTensor.successor_element.Goals as goal

pub loop-a-init : goal.loop-a-init
loop-a-init g c = record {
  same = search rules;
  folded = folded_none _ _ _ _ _ _ _ _ (omega arith) (omega (arith, c.requires.points)) c.clear.ensures.rows c.one.ensures c.one-2.ensures;
  scratch = c.clear-2.ensures;
}

pub loop-a-preserved : goal.loop-a-preserved
loop-a-preserved g c =
    let xs = c.args.point.now in
    let ys = c.args.other.now in
    let n = length c.loop-a.yielded in
    let t = YieldsList-turn (YieldsList-from_zip {s = c.into_iter-a-iterator.result} (YieldsList-from_rev_slice xs (cc)) (YieldsList-from_rev_slice ys (cc))) c.loop-a.yielded c.loop-a.a-iterator c.loop-a.yielded_by _ c.next.new.self
    (c.in-Some.a, c.in-Some.b) c.in-Some.is c.next.ensures.steps in
    let here = from_last xs ys n c.in-Some.a.now c.in-Some.b.now c.requires.points t.0 t.1 in
    let made = c.settle.ensures in
    let carried = c.passed-carry.ensures in
    record {
      same = search rules;
      folded = folded_more _ _ _ _ (length xs - n) (length xs - length (c.loop-a.yielded ++ (c.in-Some.a, c.in-Some.b) ∷ [])) _ _ _ _ _ _ _ _ (omega (arith, length_push c.loop-a.yielded (c.in-Some.a, c.in-Some.b))) (omega (arith, here.0)) (omega arith) c.requires.points here.1 here.2 made.rows carried.first carried.second
          c.loop-a.invariant.folded;
      scratch = made.scratch;
    }
