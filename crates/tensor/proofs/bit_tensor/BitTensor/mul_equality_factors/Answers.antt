use Rattle.std.proofs.Common.{length, arith, rules}
use Rattle.std.proofs.lemmas.List.{length_push}
use Rattle.std.proofs.lemmas.Slice.Zip.{zip_turn, zip_end}
use Rattle.tensor.proofs.Folds.{factors_none, factors_more, factors_all}
use Rattle.tensor.proofs.bit_tensor.BitTensor.mul_equality_factors.Goals as goal

pub loop-a-init : goal.loop-a-init
loop-a-init g c = record { same = search rules; factors = search (rules, factors_none); scratch = search rules }

pub loop-a-preserved : goal.loop-a-preserved
loop-a-preserved g c =
    let xs = c.args.point.now in
    let ys = c.args.other.now in
    let t = zip_turn xs ys c.loop-a.yielded c.into_iter-a-iterator.result c.loop-a.a-iterator c.next.new.self _ (cc) (cc) c.loop-a.yielded_by _ c.in-Some.is c.next.ensures.steps in
    let made = c.mul_equality_factor.ensures in
    record {
      same = search rules;
      factors = factors_more _ _ _ _ _ _ _ (length c.loop-a.yielded) _ _ _ t.0 t.1 (t.2 _) (t.3 _) (length_push c.loop-a.yielded _) made.rows c.loop-a.invariant.factors;
      scratch = made.scratch;
    }

pub returns-clause-rows : goal.returns-clause-rows
returns-clause-rows g c =
    let xs = c.args.point.now in
    let ys = c.args.other.now in
    let t = zip_end xs ys c.loop-a.yielded c.into_iter-a-iterator.result c.loop-a.a-iterator c.next.new.self _ (cc) (cc) c.loop-a.yielded_by c.in-None.is c.next.ensures.steps in
    factors_all _ _ _ _ _ _ (length c.loop-a.yielded) (omega (arith, c.requires.points)) c.loop-a.invariant.factors
