use Rattle.std.proofs.Common.{◌≡◌, ◌++◌, string_bytes}
use Rattle.element_text.specs.Hex.{element_text}
use Rattle.multilinear.specs.Lent.{lent}
use Rattle.report_lines.specs.Lines.{line}
use Rattle.report_lines.specs.Report.{lines_below}
use Rattle.report_lines.proofs.lines.element_lines.Given as goal

abbrev pub invariant-loop-x : goal.invariant-loop-x
invariant-loop-x g l =
    string_bytes l.out ≡ string_bytes l.initial.out ++ lines_below l.x-index (λ j. line l.word (element_text (lent g.L.Level.means l.elements j)))
