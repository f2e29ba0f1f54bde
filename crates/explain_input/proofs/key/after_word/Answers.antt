use Rattle.std.proofs.Common.{◌≡◌, ℕ, List, ◌++◌, sym, ap, ◌∙◌, Bor}
use Rattle.std.proofs.lemmas.Slice.Eq.{strip_prefix_is}
use Rattle.std.proofs.lemmas.Option.{MatchOption-at_some, MatchOption-at_none}
use Rattle.explain_input.specs.Keys.{after}
use Rattle.explain_input.proofs.Prefixes.{after_front, after_none}
use Rattle.explain_input.proofs.key.after_word.Goals as goal
use Rattle.std.proofs.lemmas.Bool.Decides.{Decides-eqb}

pub returns-in_err-rest : goal.returns-in_err-rest
returns-in_err-rest c =
    let line = c.args.line.now in
    let word = c.args.word.now in
    let h = strip_prefix_is Decides-eqb line word c.strip_prefix.result c.strip_prefix.ensures.cases in
    rw c.from_residual.ensures
    (sym (after_none word line (MatchOption-at_none ((rest : List ℕ) → line ≡ word ++ rest → ⊥) (λ (x : Bor (List ℕ)). line ≡ word ++ x.now) c.in_err-rest.was h)))

pub returns : goal.returns
returns c =
    let line = c.args.line.now in
    let word = c.args.word.now in
    let h = strip_prefix_is Decides-eqb line word c.strip_prefix.result c.strip_prefix.ensures.cases in
    let e = MatchOption-at_some ((rest : List ℕ) → line ≡ word ++ rest → ⊥) (λ (x : Bor (List ℕ)). line ≡ word ++ x.now) c.in_ok-rest.rest c.in_ok-rest.was h in
    c.after_space.ensures ∙ sym (ap (after word) e ∙ after_front word c.in_ok-rest.rest.now)
