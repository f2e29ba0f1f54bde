use Rattle.std.proofs.Common.{◌≡◌, ◌++◌, string_bytes}
use Rattle.multilinear.specs.Cells.{cell}
use Rattle.report_lines.specs.Report.{lines_below, packed_line}
use Rattle.explanation.proofs.step_lines.packed_lines.Given as goal

abbrev pub invariant-loop-w : goal.invariant-loop-w
invariant-loop-w g l = string_bytes l.out ≡ string_bytes l.initial.out ++ lines_below l.w (packed_line g.L.Level.log (cell l.bits))
