use Rattle.std.proofs.Common.{◌+◌, ◌-◌, ◌*◌, length, ap, arith}
use Rattle.std.proofs.lemmas.Iterator.Adapters.{YieldsList-from_rev_slice}
use Rattle.std.proofs.lemmas.Iterator.Consumers.{YieldsList-turn, YieldsList-end}
use Rattle.std.proofs.lemmas.List.{length-reverse, length_push}
use Rattle.coordinates.proofs.Transposed.{digits_none, digits_fit, digits_turn, digits_all}
use Rattle.coordinates.proofs.per_coordinate.gather.Goals as goal

pub loop-row-init : goal.loop-row-init
loop-row-init c = digits_none c.args.source.now c.args.v (length c.args.source.now) _ (omega arith)

pub overflow_mul-column : goal.overflow_mul-column
overflow_mul-column c =
    let ns = c.args.source.now in
    let t = YieldsList-turn (YieldsList-from_rev_slice ns cc) c.loop-row.yielded _ c.loop-row.yielded_by _ _ c.in-Some.row c.in-Some.is c.next.ensures.steps in
    let short = digits_fit ns c.args.v (length ns) (length ns - length c.loop-row.yielded) _ (omega (arith, t.0, length-reverse ns)) (omega arith) c.loop-row.invariant in
    omega (arith, short)

pub overflow_add-column : goal.overflow_add-column
overflow_add-column c =
    let ns = c.args.source.now in
    let t = YieldsList-turn (YieldsList-from_rev_slice ns cc) c.loop-row.yielded _ c.loop-row.yielded_by _ _ c.in-Some.row c.in-Some.is c.next.ensures.steps in
    let short = digits_fit ns c.args.v (length ns) (length ns - length c.loop-row.yielded) _ (omega (arith, t.0, length-reverse ns)) (omega arith) c.loop-row.invariant in
    omega (arith, short, c.coordinate.ensures)

pub loop-row-preserved : goal.loop-row-preserved
loop-row-preserved c =
    let ns = c.args.source.now in
    let t = YieldsList-turn (YieldsList-from_rev_slice ns cc) c.loop-row.yielded _ c.loop-row.yielded_by _ _ c.in-Some.row c.in-Some.is c.next.ensures.steps in
    digits_turn ns c.args.v (length c.loop-row.yielded) _ c.loop-row.column _ _ (length_push c.loop-row.yielded c.in-Some.row) t.0 t.1 (ap (λ n. 2 * c.loop-row.column + n) c.coordinate.ensures)
    c.loop-row.invariant

pub returns : goal.returns
returns c =
    let ns = c.args.source.now in
    let t = YieldsList-end (YieldsList-from_rev_slice ns cc) c.loop-row.yielded _ c.loop-row.yielded_by _ _ c.in-None.is c.next.ensures.steps in
    digits_all ns c.args.v (length ns) _ _ (omega (arith, t.1, length-reverse ns)) c.loop-row.invariant
