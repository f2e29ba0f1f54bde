use Rattle.std.proofs.Common.{◌≡◌, ◌++◌, string_bytes, codes}
use Rattle.element_text.specs.Hex.{element_text}
use Rattle.opening.specs.Batches.{weights_of}
use Rattle.report_lines.specs.Lines.{line}
use Rattle.report_lines.specs.Report.{lines_below}
use Rattle.explanation.proofs.step_lines.weight_lines.Given as goal

abbrev pub invariant-loop-i : goal.invariant-loop-i
invariant-loop-i g l =
    string_bytes l.out ≡ string_bytes l.initial.out ++ lines_below l.i (λ j. line (codes "weight") (element_text (weights_of g.L.Level l.batch j)))
