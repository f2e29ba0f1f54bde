use Rattle.std.proofs.Common.{ℕ, List, string_bytes, ap}
use Rattle.element_text.specs.Hex.{element_text}
use Rattle.multilinear.specs.Lent.{lent}
use Rattle.multilinear.proofs.Lent.{lent_read}
use Rattle.report_lines.specs.Lines.{line}
use Rattle.report_lines.proofs.Writing.{below_none, below_more}
use Rattle.report_lines.proofs.lines.element_lines.Goals as goal

pub loop-x-init : goal.loop-x-init
loop-x-init g c = below_none _ _

pub loop-x-preserved : goal.loop-x-preserved
loop-x-preserved g c =
    let m = g.L.Level.means in
    let xs = c.args.elements.now in
    let i = c.loop-x.x-index in
    let f : ℕ → List ℕ = λ j. line c.args.word.now (element_text (lent m xs j)) in
    below_more f (string_bytes c.args.out.now) (string_bytes c.loop-x.out) (string_bytes c.line.new.out) _ i c.loop-x.invariant c.in_ok-line.ensures
    (ap (λ x. line c.args.word.now (element_text x)) (lent_read m xs i c.x-item.result c.loop-x-test.true c.x-item.is))
