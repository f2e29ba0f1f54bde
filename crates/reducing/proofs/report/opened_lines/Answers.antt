use Rattle.std.proofs.Common.{◌≡◌, ◌-◌, ◌++◌, map, length, Some, vec_items, string_bytes, Option, Vec, sym, refl, ap, ◌∙◌, subst, arith}
use lib.ListN.{length-map}
use Rattle.std.proofs.lemmas.List.{append-nil}
use Rattle.std.proofs.lemmas.Result.{err_from_is_err_and}
use Rattle.std.specs.Option.{option_map}
use Rattle.std.specs.declared.alloc.Global.{Global}
use Rattle.multilinear.specs.Cells.{cell}
use Rattle.multilinear.specs.Equality.{Point}
use Rattle.report_lines.specs.Opened.{values_of, values_at}
use Rattle.problem.specs.Task.{Task, task_of, asked}
use Rattle.report_lines.specs.Report.{Reported, batched_text, opened_text}
use Rattle.report_lines.proofs.Reporting.{opening_refused, opening_passed}
use Rattle.reducing.specs.Held.{task}
use Rattle.reducing.proofs.report.opened_lines.Given as given
use Rattle.reducing.proofs.report.opened_lines.Goals as goal
use Rattle.reducing.proofs.report.opened_lines.Goals.{In_ok-opening_lines}

pub returns-in_err-opened : goal.returns-in_err-opened
returns-in_err-opened g c =
    let m = g.L.Level in
    let t = task_of m.means c.args.problem.now in
    let p = err_from_is_err_and c.from_residual.result c.from_residual.ensures.1 in
    rw (p.1, p.2) (opening_refused m.arithmetic t t.bits refl (string_bytes c.args.out.now)
    (c.args.layout.variables - m.log) (length (vec_items c.args.problem.now.point)) (omega (arith, c.requires.variables)) (sym (length-map (vec_items c.args.problem.now.point) m.means)) _
    c.in_err-opened.ensures.refusal)

-- what is written of the opening, and the text of the batching
passed : (g : given.Over) (c : In_ok-opening_lines g)
    → string_bytes c.opening_lines.new.out ++ batched_text g.L.Level.arithmetic (task_of g.L.Level.means c.args.problem.now) (option_map (λ v. map g.L.Level.means (vec_items v)) c.args.problem.now.batching)
    ≡ string_bytes c.args.out.now ++ opened_text g.L.Level.arithmetic (task_of g.L.Level.means c.args.problem.now)
passed g c =
    let m = g.L.Level in
    let t = task_of m.means c.args.problem.now in
    let same : task m c.in_ok-opened.opened ≡ t = ap (task_of m.means) c.in_ok-opened.ensures.problem in
    opening_passed m.arithmetic t t.bits refl (string_bytes c.args.out.now) (asked t) refl
    (c.args.layout.variables - m.log) (length (vec_items c.args.problem.now.point)) (omega (arith, c.requires.variables)) (sym (length-map (vec_items c.args.problem.now.point) m.means))
    (string_bytes c.opening_lines.new.out) (values_of m.means c.opening_values.result) c.in_ok-opened.ensures.refusal
    (c.opening_values.ensures.values ∙ ap (λ (s : Task m.log). values_at m.arithmetic (asked s) (cell s.bits)) same) c.in_ok-opening_lines.ensures

pub returns-in-Some : goal.returns-in-Some
returns-in-Some g c =
    let m = g.L.Level in
    let t = task_of m.means c.args.problem.now in
    let w = string_bytes c.opening_lines.new.out in
    let points : Vec g.row.L.Denot Global → Point m.log = λ v. map m.means (vec_items v) in
    let same : task m c.in_ok-opened.opened ≡ t = ap (task_of m.means) c.in_ok-opened.ensures.problem in
    subst (Reported c.batched_lines.result (string_bytes c.batched_lines.new.out))
    (ap (λ (s : Task m.log). w ++ batched_text m.arithmetic s (Some (map m.means c.as_slice.result.now))) same
    ∙ ap (λ l. w ++ batched_text m.arithmetic t (Some (map m.means l))) c.as_slice.ensures.value
    ∙ ap (λ (o : Option (Vec g.row.L.Denot Global)). w ++ batched_text m.arithmetic t (option_map points o)) (sym c.in-Some.is)
    ∙ passed g (goal.at.returns-in-Some g c).In_ok-opening_lines)
    c.batched_lines.ensures

pub returns-in-None : goal.returns-in-None
unfolding batched_text
returns-in-None g c =
    let m = g.L.Level in
    let t = task_of m.means c.args.problem.now in
    let points : Vec g.row.L.Denot Global → Point m.log = λ v. map m.means (vec_items v) in
    sym (append-nil (string_bytes c.opening_lines.new.out))
    ∙ ap (λ (o : Option (Vec g.row.L.Denot Global)). string_bytes c.opening_lines.new.out ++ batched_text m.arithmetic t (option_map points o)) (sym c.in-None.is)
    ∙ passed g (goal.at.returns-in-None g c).In_ok-opening_lines
