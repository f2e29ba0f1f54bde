use Rattle.std.proofs.Common.{ℕ, ◌*◌, ◌^◌, ◌≤◌, List, length, string_bytes, sym, ap, ◌∙◌, subst, arith}
use Rattle.std.proofs.lemmas.Nat.{one_shl}
use Rattle.std.proofs.lemmas.Result.{err_from_is_err_and}
use Rattle.problem.specs.Task.{task_of}
use Rattle.report_lines.specs.Report.{Reported, variables_of}
use Rattle.report_lines.proofs.Packed.{few, variables_are, cells_few}
use Rattle.report_lines.proofs.Reporting.{packing_refused, packing_passed}
use Rattle.explanation.proofs.report.problem_lines.Goals as goal

pub returns-in_err-variables : goal.returns-in_err-variables
returns-in_err-variables g c =
    let m = g.L.Level in
    let t = task_of m.means c.args.problem.now in
    let p = err_from_is_err_and c.from_residual.result c.from_residual.ensures.1 in
    rw (p.1, p.2) (packing_refused m.arithmetic t _ c.as_slice-bits.ensures.value (string_bytes c.args.out.now) _ c.in_err-variables.ensures.refusal)

pub overflow_shl-variables : goal.overflow_shl-variables
overflow_shl-variables g c =
    let small : length c.as_slice-bits.result.now ≤ 2 ^ 24 = omega (arith, c.args.problem.now.few, ap length c.as_slice-bits.ensures.value) in
    omega (arith, few _ _ _ c.in_ok-variables.ensures.packs small)

pub packed_lines-requires : goal.packed_lines-requires
packed_lines-requires g c =
    let small : length c.as_slice-bits.result.now ≤ 2 ^ 24 = omega (arith, c.args.problem.now.few, ap length c.as_slice-bits.ensures.value) in
    let p = c.in_ok-variables.ensures.packs in
    let v = c.in_ok-variables.variables in
    (p.narrow, subst (λ (n : ℕ). n * 2 ^ g.L.Level.log ≤ 2 ^ 64) (sym (one_shl v 64 (omega (arith, few _ _ _ p small)))) (cells_few _ _ _ p small))

pub opened_lines-requires : goal.opened_lines-requires
opened_lines-requires g c =
    let bits = c.as_slice-bits.ensures.value in
    let small : length c.as_slice-bits.result.now ≤ 2 ^ 24 = omega (arith, c.args.problem.now.few, ap length bits) in
    let p = c.in_ok-variables.ensures.packs in
    record {
      narrow = p.narrow;
      few = few _ _ _ p small;
      packed = variables_are _ _ _ p small ∙ ap (λ (l : List ℕ). variables_of g.L.Level.log (length l)) bits;
    }

pub returns : goal.returns
returns g c =
    let m = g.L.Level in
    let t = task_of m.means c.args.problem.now in
    let bits = c.as_slice-bits.ensures.value in
    let small : length c.as_slice-bits.result.now ≤ 2 ^ 24 = omega (arith, c.args.problem.now.few, ap length bits) in
    let p = c.in_ok-variables.ensures.packs in
    let v = c.in_ok-variables.variables in
    subst (Reported c.opened_lines.result (string_bytes c.opened_lines.new.out))
    (packing_passed m.arithmetic t _ bits (string_bytes c.args.out.now) (string_bytes c.packed_lines.new.out) v _ c.in_ok-variables.ensures.refusal
    (variables_are _ _ _ p small) (one_shl v 64 (omega (arith, few _ _ _ p small))) c.in_ok-packed_lines.ensures)
    c.opened_lines.ensures
