use Rattle.explain_input.proofs.Collecting.{no_lines}
use Rattle.explain_input.proofs.lines.LinesIterator.next.Goals as goal

pub returns-then-is_empty-clause-steps : goal.returns-then-is_empty-clause-steps
returns-then-is_empty-clause-steps c = let e = no_lines c.args.self.now.0.now c.if-is_empty.ensures in (e, e)
