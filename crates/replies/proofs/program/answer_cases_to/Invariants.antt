use Rattle.std.specs.Io.Buffered.{reader_remaining}
use Rattle.replies.specs.Answering.{GivesReplies}
use Rattle.replies.proofs.Replying.{Answered}
use Rattle.replies.proofs.program.answer_cases_to.Given as goal

abbrev pub invariant-loop : goal.invariant-loop
invariant-loop g l =
    GivesReplies (goal.F-post g l.reply)
    → Answered (g.R.Read.remaining l.fn.reader) (reader_remaining (λ r. g.R.Read.remaining r.now) l.input) (g.W.Write.contents l.initial.writer) (g.W.Write.contents l.writer)
