-- What follows a word at the start of a line.
use Rattle.std.proofs.Common.{◌≡◌, ℕ, eqb, List, [], ◌∷◌, ◌++◌, None, refl, ◌∙◌, ap₂}
use Rattle.std.proofs.lemmas.Bool.{cond_both, cond-true, eqb-true, eq-eqb}
use Rattle.explain_input.specs.Keys.{spaced, after}

pub after_front : (word rest : List ℕ) → after word (word ++ rest) ≡ spaced rest
unfolding after
after_front [] rest = refl
after_front (a ∷ word) rest = cond-true (eqb a a) (after word (word ++ rest)) None (eq-eqb a a refl) ∙ after_front word rest

pub after_none : (word line : List ℕ) → ((rest : List ℕ) → line ≡ word ++ rest → ⊥) → after word line ≡ None
unfolding after
after_none [] line h = absurd (h line refl)
after_none (a ∷ word) [] h = refl
after_none (a ∷ word) (c ∷ line) h =
    cond_both (eqb c a) (after word line) None (λ x. x ≡ None)
    (λ t. after_none word line (λ rest e. h rest (ap₂ (λ (x : ℕ) (l : List ℕ). x ∷ l) (eqb-true c a t) e)))
    (λ f. refl)
