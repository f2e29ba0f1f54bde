use Rattle.std.proofs.Common.{◌≡◌, ℕ, ◌+◌, ◌/◌, ◌^◌, ◌≤◌, ◌++◌, length, string_bytes, sym, ap, ◌∙◌, refl, subst, arith, length-take-le}
use Rattle.level.specs.Bytes.{num_bytes}
use Rattle.std.proofs.lemmas.Result.{err_from_is_err_and}
use Rattle.multilinear.specs.Cells.{cell}
use Rattle.problem.specs.Task.{task_of}
use Rattle.report_lines.specs.Report.{Reported, lines_below, packed_line}
use Rattle.report_lines.proofs.Reporting.{packing_refused, packing_passed}
use Rattle.reduction.specs.Layout.{layout_end}
use Rattle.reducing.proofs.Packing.{Sized, sized, most_is, table_packed, packed_lines}
use Rattle.reducing.proofs.report.problem_lines.Given as given
use Rattle.reducing.proofs.report.problem_lines.Goals as goal
use Rattle.reducing.proofs.report.problem_lines.Goals.{In_ok-variables}

size : (g : given.Over) (c : In_ok-variables g) → Sized g.L.Level.log (length c.as_slice-bits.result.now) c.in_ok-variables.variables
size g c =
    let small : length c.as_slice-bits.result.now ≤ 2 ^ 24 = omega (arith, c.args.problem.now.few, ap length c.as_slice-bits.ensures.value) in
    sized _ _ _ c.in_ok-variables.ensures.refusal c.in_ok-variables.ensures.packs small

-- the stretch has room for the packed elements
within : (g : given.Over) (v n C count len : ℕ) → Sized g.L.Level.log n v → C ≡ v + g.L.Level.log → count ≡ n / num_bytes g.L.Level.log → len ≡ layout_end g.L.Level.log C → count ≤ len
within g v n C count len s e made size = omega (arith, s.count, most_is g.L.Level.log n v C s e, made, size)

pub overflow_add-variables : goal.overflow_add-variables
overflow_add-variables g c =
    let s = size g (goal.at.overflow_add-variables g c).In_ok-variables in
    omega (arith, s.some, s.narrow)

pub new-layout-requires-clause-level : goal.new-layout-requires-clause-level
new-layout-requires-clause-level g c =
    let s = size g (goal.at.new-layout-requires-clause-level g c).In_ok-variables in (s.wide, s.narrow)

pub new-layout-requires-clause-variables : goal.new-layout-requires-clause-variables
new-layout-requires-clause-variables g c =
    let s = size g (goal.at.new-layout-requires-clause-variables g c).In_ok-variables in
    (omega (arith, s.narrow), omega (arith, s.some, s.narrow))

pub pack_elements-count-requires-clause-room : goal.pack_elements-count-requires-clause-room
pack_elements-count-requires-clause-room g c =
    let s = size g (goal.at.pack_elements-count-requires-clause-room g c).In_ok-variables in
    let C : c.new-layout.result.variables ≡ c.in_ok-variables.variables + g.L.Level.log = omega (arith, s.narrow) in
    omega (arith, s.count, most_is _ _ _ _ s C, c.as_mut_slice-memory.ensures.len, c.in_ok-stretch.ensures.len, c.len.ensures)

pub slice_bounds-element_lines-end-2 : goal.slice_bounds-element_lines-end-2
slice_bounds-element_lines-end-2 g c =
    let s = size g (goal.at.slice_bounds-element_lines-end-2 g c).In_ok-variables in
    within g c.in_ok-variables.variables (length c.as_slice-bits.result.now) c.new-layout.result.variables c.pack_elements-count.result (length c.pack_elements-count.new.elements) s (omega (arith, s.narrow))
    c.pack_elements-count.ensures.count (omega (arith, c.pack_elements-count.auto.elements, c.as_mut_slice-memory.ensures.len, c.in_ok-stretch.ensures.len, c.len.ensures))

pub slice_bounds-element_lines-end-3 : goal.slice_bounds-element_lines-end-3
slice_bounds-element_lines-end-3 g c =
    let s = size g (goal.at.slice_bounds-element_lines-end-3 g c).In_ok-variables in
    sym (length-take-le c.pack_elements-count.result c.pack_elements-count.new.elements
    (within g c.in_ok-variables.variables (length c.as_slice-bits.result.now) c.new-layout.result.variables c.pack_elements-count.result (length c.pack_elements-count.new.elements) s (omega (arith, s.narrow))
    c.pack_elements-count.ensures.count (omega (arith, c.pack_elements-count.auto.elements, c.as_mut_slice-memory.ensures.len, c.in_ok-stretch.ensures.len, c.len.ensures))))

pub opened_lines-requires : goal.opened_lines-requires
opened_lines-requires g c =
    let s = size g (goal.at.opened_lines-requires g c).In_ok-variables in
    let C : c.new-layout.result.variables ≡ c.in_ok-variables.variables + g.L.Level.log = omega (arith, s.narrow) in
    table_packed g.L.Level c.args.problem.now c.new-layout.result.variables c.in_ok-variables.variables c.pack_elements-count.result c.as_slice-bits.result.now c.pack_elements-count.new.elements
    c.as_slice-bits.ensures.value s C (omega (arith, c.pack_elements-count.auto.elements, c.as_mut_slice-memory.ensures.len, c.in_ok-stretch.ensures.len, c.len.ensures))
    c.pack_elements-count.ensures.count c.pack_elements-count.ensures.packed.elements

pub returns-in_err-variables : goal.returns-in_err-variables
returns-in_err-variables g c =
    let m = g.L.Level in
    let t = task_of m.means c.args.problem.now in
    let p = err_from_is_err_and c.from_residual.result c.from_residual.ensures.1 in
    rw (p.1, p.2) (packing_refused m.arithmetic t _ c.as_slice-bits.ensures.value (string_bytes c.args.out.now) _ c.in_err-variables.ensures.refusal)

pub returns : goal.returns
returns g c =
    let m = g.L.Level in
    let t = task_of m.means c.args.problem.now in
    let s = size g (goal.at.returns g c).In_ok-variables in
    let v = c.in_ok-variables.variables in
    let count = c.pack_elements-count.result in
    let lines = packed_lines m count c.as_slice-bits.result.now c.pack_elements-count.new.elements
    (within g v (length c.as_slice-bits.result.now) c.new-layout.result.variables count (length c.pack_elements-count.new.elements) s (omega (arith, s.narrow))
    c.pack_elements-count.ensures.count (omega (arith, c.pack_elements-count.auto.elements, c.as_mut_slice-memory.ensures.len, c.in_ok-stretch.ensures.len, c.len.ensures)))
    c.pack_elements-count.ensures.packed.elements in
    subst (Reported c.opened_lines.result (string_bytes c.opened_lines.new.out))
    (packing_passed m.arithmetic t _ c.as_slice-bits.ensures.value (string_bytes c.args.out.now) (string_bytes c.element_lines.new.out) v (2 ^ v) c.in_ok-variables.ensures.refusal
    s.variables refl (c.in_ok-element_lines.ensures ∙ ap (λ l. string_bytes c.args.out.now ++ l) (lines ∙ ap (λ n. lines_below n (packed_line m.log (cell c.as_slice-bits.result.now))) (c.pack_elements-count.ensures.count ∙ s.count))))
    c.opened_lines.ensures
