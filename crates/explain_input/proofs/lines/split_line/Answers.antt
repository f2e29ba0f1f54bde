use Rattle.std.proofs.Common.{◌≡◌, ◌≢◌, suc, ◌+◌, ◌-◌, ◌∷◌, length, take, drop, sym, ap, ◌∙◌, add-one, arith, rules}
use borrow.Author.Tests.{tests}
use Rattle.std.proofs.lemmas.List.{take_rest}
use Rattle.std.proofs.lemmas.Iterator.{YieldsList-from_slice, IsFirst-from_position}
use Rattle.explain_input.specs.Keys.{lines}
use Rattle.explain_input.proofs.Splitting.{lines_at, lines_one}
use Rattle.explain_input.proofs.lines.split_line.Goals as goal

pub returns-in-Some : goal.returns-in-Some
returns-in-Some c =
    let text = c.args.text.now in
    let end = c.in-Some.end in
    let found = IsFirst-from_position _ _ _ (λ x. x ≡ 10) (λ x. x ≢ 10) c.in-Some.ensures.ran (YieldsList-from_slice text cc) (λ x q k. search (rules, tests)) (λ x q k. search (rules, tests)) in
    let after : drop (suc end) text ≡ take (length text - (end + 1)) (drop (end + 1) text) = ap (λ n. drop n text) (sym (add-one end)) ∙ sym (take_rest text (end + 1)) in
    lines_at text end found.0 (λ i h. found.2 i 0 (omega arith) h) (found.1 0) ∙ ap (λ l. take end text ∷ lines l) after

pub returns-in-None : goal.returns-in-None
unfolding lines
returns-in-None c =
    let text = c.args.text.now in
    let none = IsFirst-from_position _ _ _ (λ x. x ≡ 10) (λ x. x ≢ 10) c.in-None.ensures.ran (YieldsList-from_slice text cc) (λ x q k. search (rules, tests)) (λ x q k. search (rules, tests)) in
    lines_one text c.requires (λ i h. none i 0 (omega arith) h)
