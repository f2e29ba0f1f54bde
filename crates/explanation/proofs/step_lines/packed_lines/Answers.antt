use Rattle.std.proofs.Common.{string_bytes, codes, ap}
use Rattle.element_text.specs.Hex.{element_text}
use Rattle.multilinear.specs.Cells.{cell}
use Rattle.report_lines.specs.Lines.{line}
use Rattle.report_lines.specs.Report.{packed_line}
use Rattle.report_lines.proofs.Writing.{below_none, below_more}
use Rattle.explanation.proofs.step_lines.packed_lines.Goals as goal

pub loop-w-init : goal.loop-w-init
loop-w-init g c = below_none (packed_line g.L.Level.log (cell c.args.bits.now)) (string_bytes c.args.out.now)

pub loop-w-preserved : goal.loop-w-preserved
loop-w-preserved g c =
    let m = g.L.Level in
    below_more (packed_line m.log (cell c.args.bits.now)) (string_bytes c.args.out.now) (string_bytes c.loop-w.out)
    (string_bytes c.line.new.out) (line (codes "packed") (element_text (m.means c.packed_element.result))) c.loop-w.w c.loop-w.invariant
    c.in_ok-line.ensures (ap (λ x. line (codes "packed") (element_text x)) c.packed_element.ensures)
