use Rattle.std.proofs.Common.{map, length, is_some, string_bytes, sym, refl, ap, ◌∙◌}
use lib.ListN.{length-map}
use Rattle.std.proofs.lemmas.Result.{err_from_is_err_and}
use Rattle.ring_switch.specs.Opening.{kept}
use Rattle.refusals.specs.Steps.{batching}
use Rattle.opening.specs.Openings.{opening_of}
use Rattle.problem.specs.Task.{task_of}
use Rattle.problem.proofs.Optional.{some_mapped}
use Rattle.report_lines.proofs.Reporting.{batching_refused}
use Rattle.explanation.proofs.report.batched_lines.Goals as goal

pub returns-in_err-check_batching : goal.returns-in_err-check_batching
returns-in_err-check_batching g c =
    let m = g.L.Level in
    let t = task_of m.means c.args.problem.now in
    let b = c.args.batching.now in
    let p = err_from_is_err_and c.from_residual.result c.from_residual.ensures.1 in
    rw (p.1, p.2) (batching_refused m.arithmetic t _ refl (string_bytes c.args.out.now) (opening_of m c.args.reduction) c.requires
    (map m.means b) (length b) (sym (length-map b m.means)) _ (some_mapped m.means c.args.problem.now.challenge) _
    (c.in_err-check_batching.ensures ∙ ap (λ s. batching m.log (is_some (kept m.log c.args.reduction.view)) s (length b)) c.is_some.ensures))

pub weighed_lines-requires : goal.weighed_lines-requires
weighed_lines-requires g c =
    let m = g.L.Level in
    let b = c.args.batching.now in
    record {
      opened = c.requires;
      rows = rw c.as_slice.ensures.value c.in_ok-rows.ensures;
      fits = sym (c.in_ok-check_batching.ensures ∙ ap (λ s. batching m.log (is_some (kept m.log c.args.reduction.view)) s (length b)) c.is_some.ensures);
    }
