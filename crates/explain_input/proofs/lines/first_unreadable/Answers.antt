use Rattle.std.proofs.Common.{◌≡◌, true, false, [], refl, sym, ◌∙◌, inl, arith, rules}
use borrow.Author.Tests.{tests}
use Rattle.std.proofs.lemmas.Iterator.{IsFirst-from_position}
use Rattle.std.proofs.lemmas.Iterator.Consumers.{YieldsList-from_first}
use Rattle.explain_input.specs.Keys.{lines, readable}
use Rattle.explain_input.proofs.Collecting.{few_lines, unreadable_at, unreadable_none}
use Rattle.explain_input.proofs.lines.first_unreadable.Goals as goal

pub position-requires-clause-fits : goal.position-requires-clause-fits
position-requires-clause-fits c = inl (omega (arith, few_lines c.args.text.now))

pub returns-in_err-i : goal.returns-in_err-i
returns-in_err-i c =
    let ls = lines c.args.text.now in
    let none = IsFirst-from_position c.position.new.self _ _ (λ l. readable l ≡ false) (λ l. readable l ≡ true) c.in_err-i.ensures.ran (YieldsList-from_first (λ x. x.now) (λ s. lines s.0.now) ls refl)
    (λ x q k. search (rules, tests)) (λ x q k. search (rules, tests)) in
    c.from_residual.ensures ∙ sym (unreadable_none 1 ls (λ k h. none k [] (omega arith) h))

pub overflow_add-result : goal.overflow_add-result
overflow_add-result c = omega (arith, few_lines c.args.text.now, c.in_ok-i.ensures.bound)

pub returns : goal.returns
returns c =
    let ls = lines c.args.text.now in
    let found = IsFirst-from_position c.position.new.self _ _ (λ l. readable l ≡ false) (λ l. readable l ≡ true) c.in_ok-i.ensures.ran (YieldsList-from_first (λ x. x.now) (λ s. lines s.0.now) ls refl)
    (λ x q k. search (rules, tests)) (λ x q k. search (rules, tests)) in
    sym (unreadable_at 1 ls c.in_ok-i.i found.0 (found.1 []) (λ k h. found.2 k [] (omega arith) h))
