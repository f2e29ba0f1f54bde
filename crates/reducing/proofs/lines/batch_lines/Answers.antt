use Rattle.std.proofs.Common.{◌≡◌, ℕ, List, ◌++◌, length, vec_items, string_bytes, codes, ap, ◌∙◌}
use Rattle.std.proofs.lemmas.Result.{on_ok_weaker}
use Rattle.element_text.specs.Hex.{element_text}
use Rattle.multilinear.specs.Cells.{cell}
use Rattle.multilinear.specs.Lent.{lent}
use Rattle.ring_switch.specs.Slots.{slot_count}
use Rattle.problem.specs.Task.{asked}
use Rattle.report_lines.specs.Batched.{initial}
use Rattle.report_lines.specs.Lines.{line}
use Rattle.report_lines.specs.Report.{batching_text, lines_below, weight_line}
use Rattle.report_lines.proofs.Writing.{joined, below_same}
use Rattle.reducing.specs.Held.{task, batching_held}
use Rattle.reducing.proofs.Answered.{initial_held, weights_held}
use Rattle.reducing.proofs.lines.batch_lines.Goals as goal

pub returns : goal.returns
unfolding batching_text
returns g c =
    let m = g.L.Level in
    let p = c.args.opened.now in
    let xs = c.args.memory.now in
    let b = batching_held m p xs in
    let bits = cell (vec_items p.problem.now.bits) in
    let n = slot_count m.arithmetic (asked (task m p)) in
    let text : ℕ → List ℕ = λ i. line (codes "weight") (element_text (lent m.means c.weights.result.now i)) in
    let size : length c.weights.result.now ≡ n = c.weights.ensures.count ∙ ap (slot_count m.arithmetic) c.requires.tensors.opening.opening_is in
    let lines : lines_below (length c.weights.result.now) text ≡ lines_below n (weight_line m.arithmetic b) =
    ap (λ k. lines_below k text) size
    ∙ below_same n text (weight_line m.arithmetic b) (λ i h. ap (λ x. line (codes "weight") (element_text x)) (ap (λ ws. lent m.means ws i) c.weights.ensures.weights ∙ weights_held m g.met.L.Level.ring p xs c.requires i h)) in
    let sum = c.initial_sum-initial.ensures ∙ initial_held m g.met.L.Level.ring p xs c.requires in
    let written = string_bytes c.line.new.out in
    on_ok_weaker c.element_lines.result (λ e. joined (string_bytes c.args.out.now) written (string_bytes c.element_lines.new.out)
    (line (codes "initial") (element_text (initial m.arithmetic b bits))) (lines_below n (weight_line m.arithmetic b))
    (c.in_ok-line.ensures ∙ ap (λ x. string_bytes c.args.out.now ++ line (codes "initial") (element_text x)) sum) (e ∙ ap (λ t. written ++ t) lines))
    c.element_lines.ensures
