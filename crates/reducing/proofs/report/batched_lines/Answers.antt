use Rattle.std.proofs.Common.{map, length, string_bytes, sym, refl, subst}
use lib.ListN.{length-map}
use Rattle.std.proofs.lemmas.Result.{err_from_is_err_and}
use Rattle.problem.proofs.Optional.{some_mapped}
use Rattle.problem.specs.Task.{asked}
use Rattle.report_lines.specs.Report.{Reported}
use Rattle.report_lines.proofs.Reporting.{batching_refused, batching_passed}
use Rattle.reducing.specs.Held.{task, batching_held}
use Rattle.reducing.proofs.report.batched_lines.Goals as goal

pub returns-in_err-batch : goal.returns-in_err-batch
returns-in_err-batch g c =
    let m = g.L.Level in
    let t = task m c.args.opened.now in
    let b = c.args.batching.now in
    let p = err_from_is_err_and c.from_residual.result c.from_residual.ensures.1 in
    rw (p.1, p.2) (batching_refused m.arithmetic t _ refl (string_bytes c.args.out.now) (asked t) refl
    (map m.means b) (length b) (sym (length-map b m.means)) _ (some_mapped m.means c.args.opened.now.problem.now.challenge) _ c.in_err-batch.ensures.refusal)

pub returns : goal.returns
returns g c =
    let m = g.L.Level in
    let p = c.args.opened.now in
    let t = task m p in
    let b = c.args.batching.now in
    let s = batching_held m p c.batch.new.memory in
    subst (Reported c.closing_lines.result (string_bytes c.closing_lines.new.out))
    (batching_passed m.arithmetic t t.bits refl (string_bytes c.args.out.now) (asked t) refl
    (map m.means b) (length b) (sym (length-map b m.means)) _ (some_mapped m.means p.problem.now.challenge) (string_bytes c.batch_lines.new.out) s.rows
    c.in_ok-batch.ensures.rows c.in_ok-batch.ensures.refusal c.in_ok-batch_lines.ensures)
    c.closing_lines.ensures
