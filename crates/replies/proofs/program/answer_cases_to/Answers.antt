use Rattle.std.proofs.Common.{subst, rules}
use Rattle.std.specs.Io.Buffered.{reader_remaining}
use Rattle.report_lines.specs.Replies.{Reply}
use Rattle.replies.proofs.Replying.{more_answered, all_answered}
use Rattle.replies.proofs.program.answer_cases_to.Goals as goal

pub loop-preserved : goal.loop-preserved
loop-preserved g c = λ h.
    let reply = c.in_ok-write_reply.ensures h in
    more_answered (g.R.Read.remaining c.args.reader.now) (reader_remaining (λ r. g.R.Read.remaining r.now) c.loop.input) (reader_remaining (λ r. g.R.Read.remaining r.now) c.read_case.new.input) (g.W.Write.contents c.args.writer.now) (g.W.Write.contents c.loop.writer)
    c.read_case.new.case.items c.in_ok-more.more (c.loop.invariant h) c.in_ok-more.ensures reply.0 (subst (λ text. Reply text reply.0) c.as_slice.ensures.value reply.1)
    (g.W.Write.contents c.write_reply.new.writer) (g.W.Write.contents c.write_all.new.self) (search rules) reply.2 c.in_ok-write_all.ensures.bytes

pub returns-then-not-more : goal.returns-then-not-more
returns-then-not-more g c = λ h.
    let reply = c.in_ok-write_reply.ensures h in
    all_answered (g.R.Read.remaining c.args.reader.now) (reader_remaining (λ r. g.R.Read.remaining r.now) c.loop.input) (reader_remaining (λ r. g.R.Read.remaining r.now) c.read_case.new.input) (g.W.Write.contents c.args.writer.now) (g.W.Write.contents c.loop.writer)
    c.read_case.new.case.items c.in_ok-more.more (c.loop.invariant h) c.in_ok-more.ensures reply.0 (subst (λ text. Reply text reply.0) c.as_slice.ensures.value reply.1)
    (g.W.Write.contents c.write_reply.new.writer) (search rules) reply.2
