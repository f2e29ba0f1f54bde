use Rattle.std.proofs.Common.{◌≡◌, ◌∷◌, length, sym, ap, ◌∙◌, arith}
use Rattle.explain_input.specs.Keys.{lines, texts}
use Rattle.explain_input.proofs.Collecting.{texts_pass, texts_first, texts_end}
use Rattle.explain_input.proofs.lines.TextsIterator.next.Goals as goal

first : (c : goal.In-Some-text_after) → texts c.args.self.now.key (lines c.args.self.now.lines.0.now) ≡ c.in-Some-text_after.text.now ∷ texts c.loop-line.self.key (lines c.next.new.self.0.now)
first c = sym c.loop-line.invariant.1 ∙ texts_first _ _ _ _ c.in-Some.ensures.steps _ c.in-Some-text_after.ensures

pub returns-in-Some-text_after-clause-steps : goal.returns-in-Some-text_after-clause-steps
returns-in-Some-text_after-clause-steps c = first c

pub returns-in-Some-text_after-clause-goes : goal.returns-in-Some-text_after-clause-goes
returns-in-Some-text_after-clause-goes c = record { on = λ f. (tt, tt, omega (arith, ap length (first c))); keeps = tt; rests = λ f. tt }

pub loop-line-preserved : goal.loop-line-preserved
loop-line-preserved c = (c.loop-line.invariant.0, sym (texts_pass _ _ _ _ c.in-Some.ensures.steps c.in_default-text_after.ensures) ∙ c.loop-line.invariant.1)

pub returns-clause-steps : goal.returns-clause-steps
returns-clause-steps c = (sym c.loop-line.invariant.1 ∙ texts_end _ _ c.in_default.ensures.steps.0, texts_end _ _ c.in_default.ensures.steps.1)
