use Rattle.std.proofs.Common.{true, take, sym, ap, ◌∙◌, subst, rules}
use Rattle.std.specs.Prelude.{IfSome}
use Rattle.replies.specs.Cases.{CaseRead}
use Rattle.replies.proofs.Reading.{none_read, more_read, case_read, end_read}
use Rattle.replies.proofs.program.read_case.Goals as goal

pub loop-init : goal.loop-init
loop-init g c = none_read (g.B.Read.remaining c.args.input.now) c.clear.new.self.items c.clear.ensures.items

pub returns-then-branch-eq0 : goal.returns-then-branch-eq0
returns-then-branch-eq0 g c =
    end_read (g.B.Read.remaining c.args.input.now) (g.B.Read.remaining c.loop.input) (g.B.Read.remaining c.read_until.new.self) c.loop.case.items c.read_until.new.buf.items
    c.loop.invariant c.in_ok-read_until.ensures.bytes c.in_ok-read_until.ensures.rest (search rules)

pub returns-then-eq : goal.returns-then-eq
returns-then-eq g c =
    subst (λ case. IfSome (g.B.Read.remaining c.args.input.now) (λ text. CaseRead text case (g.B.Read.remaining c.read_until.new.self) true)) (sym (c.truncate.ensures.items ∙ ap (λ n. take n c.read_until.new.buf.items) (c.len-start.ensures ∙ c.loop.case.ok.0)))
    (case_read (g.B.Read.remaining c.args.input.now) (g.B.Read.remaining c.loop.input) (g.B.Read.remaining c.read_until.new.self) c.loop.case.items c.read_until.new.buf.items
    c.loop.invariant c.in_ok-read_until.ensures.bytes c.in_ok-read_until.ensures.rest (search rules) (search rules))

pub loop-preserved : goal.loop-preserved
loop-preserved g c =
    more_read (g.B.Read.remaining c.args.input.now) (g.B.Read.remaining c.loop.input) (g.B.Read.remaining c.read_until.new.self) c.loop.case.items c.read_until.new.buf.items
    c.loop.invariant c.in_ok-read_until.ensures.bytes c.in_ok-read_until.ensures.rest (search rules) (search rules)
