use Rattle.std.proofs.Common.{◌++◌, map, length, vec_items, string_bytes, Vec, sym, ap, ◌∙◌, subst, rules}
use lib.ListN.{length-map}
use Rattle.std.proofs.lemmas.Fn.{always_returns_same}
use Rattle.std.specs.declared.alloc.Global.{Global}
use Rattle.multilinear.specs.Equality.{Point}
use Rattle.multilinear.specs.Lent.{lent}
use Rattle.opening.specs.Openings.{opening_of}
use Rattle.problem.specs.Task.{task_of}
use Rattle.problem.proofs.Optional.{some_mapped}
use Rattle.report_lines.specs.Batched.{Batching}
use Rattle.report_lines.specs.Closings.{Closes}
use Rattle.report_lines.specs.Report.{Reported, closing_text}
use Rattle.report_lines.proofs.Reporting.{batching_passed}
use Rattle.explanation.proofs.report.weighed_lines.Goals as goal

pub returns : goal.returns
returns g c =
    let m = g.L.Level in
    let problem = c.args.problem.now in
    let t = task_of m.means problem in
    let b = c.args.batching.now in
    let rows = c.args.rows.now in
    let bits = c.as_slice.result.now in
    let o = opening_of m c.args.reduction in
    let points : Vec g.row.L.Denot Global → Point m.log = λ v. map m.means (vec_items v) in
    let s : Batching m.log = record { opening = o; rows = lent m.means rows; challenge = t.challenge } in
    let w = string_bytes c.batch_lines.new.out in
    subst (Reported c.closing_lines.result (string_bytes c.closing_lines.new.out))
    (ap (λ l. w ++ closing_text m.arithmetic s (map points l)) c.as_slice-2.ensures.value
    ∙ batching_passed m.arithmetic t bits c.as_slice.ensures.value (string_bytes c.args.out.now) o c.requires.opened
    (map m.means b) (length b) (sym (length-map b m.means)) _ (some_mapped m.means problem.challenge) w (lent m.means rows)
    c.requires.rows.entries (sym c.requires.fits) c.in_ok-batch_lines.ensures)
    (c.closing_lines.ensures s (always_returns_same _ _ _ (λ a r f called.
    let closes : Closes m.means m.arithmetic s a.0.now r = search (rules, called.met) in
    (closes, search (rules, called.met)))))
