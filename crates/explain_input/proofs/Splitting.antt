-- A text by its first line and the lines after it.
use Rattle.std.proofs.Common.{◌≡◌, ℕ, zero, suc, ◌<◌, eqb, List, [], ◌∷◌, length, get_or, take, drop, ap, ◌∙◌, arith}
use Rattle.std.proofs.lemmas.Bool.{cond-true, cond-false, eq-eqb, ne_eqb}
use Rattle.explain_input.specs.Keys.{in_front, lines}

-- the first line ends at the first newline
pub lines_at : (text : List ℕ) (n : ℕ) → n < length text → ((i : ℕ) → i < n → get_or text i 0 ≡ 10 → ⊥) → get_or text n 0 ≡ 10
    → lines text ≡ take n text ∷ lines (drop (suc n) text)
unfolding lines
lines_at [] n h before found = absurd (omega arith)
lines_at (c ∷ text) zero h before found = cond-true (eqb c 10) _ _ (eq-eqb c 10 found)
lines_at (c ∷ text) (suc n) h before found =
    cond-false (eqb c 10) _ _ (ne_eqb c 10 (before 0 (omega arith)))
    ∙ ap (in_front c) (lines_at text n (omega arith) (λ i l. before (suc i) (omega arith)) found)

-- a text without a newline is one line
pub lines_one : (text : List ℕ) → 0 < length text → ((i : ℕ) → i < length text → get_or text i 0 ≡ 10 → ⊥) → lines text ≡ text ∷ []
unfolding lines
lines_one [] h before = absurd (omega arith)
lines_one (c ∷ []) h before = cond-false (eqb c 10) _ _ (ne_eqb c 10 (before 0 (omega arith)))
lines_one (c ∷ d ∷ text) h before =
    cond-false (eqb c 10) _ _ (ne_eqb c 10 (before 0 (omega arith)))
    ∙ ap (in_front c) (lines_one (d ∷ text) (omega arith) (λ i l. before (suc i) (omega arith)))
