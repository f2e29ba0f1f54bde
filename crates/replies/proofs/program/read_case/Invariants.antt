use Rattle.replies.proofs.Reading.{HasRead}
use Rattle.replies.proofs.program.read_case.Given as goal

abbrev pub invariant-loop : goal.invariant-loop
invariant-loop g l = HasRead (g.B.Read.remaining l.fn.input) l.case.items (g.B.Read.remaining l.input)
