use Rattle.std.proofs.Common.{string_bytes, codes, ap, ◌∙◌, ◌++◌}
use Rattle.multilinear.specs.Cells.{cell}
use Rattle.element_text.specs.Hex.{element_text}
use Rattle.std.proofs.lemmas.Result.{on_ok_weaker}
use Rattle.report_lines.specs.Batched.{batching_of, initial}
use Rattle.report_lines.specs.Lines.{line}
use Rattle.report_lines.specs.Report.{batching_text}
use Rattle.report_lines.proofs.Writing.{joined}
use Rattle.explanation.specs.Texts.{weights_text}
use Rattle.explanation.proofs.step_lines.batch_lines.Goals as goal

pub returns : goal.returns
unfolding batching_text
returns g c =
    let m = g.L.Level in
    let b = c.args.batch.now in
    let x = initial m.arithmetic (batching_of m b) (cell c.args.bits.now) in
    on_ok_weaker c.weight_lines.result
    (joined (string_bytes c.args.out.now) (string_bytes c.line.new.out) (string_bytes c.weight_lines.new.out) (line (codes "initial") (element_text x)) (weights_text m b)
    (c.in_ok-line.ensures ∙ ap (λ y. string_bytes c.args.out.now ++ line (codes "initial") (element_text y)) c.slot_sum.ensures.initial))
    c.weight_lines.ensures
