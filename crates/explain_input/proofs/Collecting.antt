-- The texts of a key, line by line, and the first line that is not readable.
use Rattle.std.proofs.Common.{◌≡◌, ℕ, zero, suc, ◌+◌, ◌<◌, ◌≤◌, true, false, eqb, List, [], ◌∷◌, ◌++◌, length, get_or, Some, None, refl, sym, ap, ◌∙◌, arith}
use Rattle.std.proofs.lemmas.List.{nil_from_length}
use Rattle.std.proofs.lemmas.Bool.{cond_both, cond-true, cond-false, eqb-true}
use Rattle.std.specs.Option.{option_to_list}
use Rattle.explain_input.specs.declared.key.Key.{Key}
use Rattle.explain_input.specs.Keys.{in_front, after, word_of, lines, texts, readable, unreadable}

pub no_lines : (text : List ℕ) → true ≡ eqb (length text) 0 → lines text ≡ []
unfolding lines
no_lines text e = ap lines (nil_from_length text (eqb-true (length text) 0 (sym e)))

-- a text has no more lines than characters
pub few_lines : (text : List ℕ) → length (lines text) ≤ length text
unfolding lines
few_lines [] = omega arith
few_lines (c ∷ text) =
    cond_both (eqb c 10) ([] ∷ lines text) (in_front c (lines text)) (λ ls. length ls ≤ suc (length text))
    (λ _. omega (arith, few_lines text)) (λ _. in_first (lines text) (few_lines text))
  where
    in_first : (ls : List (List ℕ)) → length ls ≤ length text → length (in_front c ls) ≤ suc (length text)
    in_first [] h = omega arith
    in_first (l ∷ ls) h = omega arith

-- ls is line and the lines after it
module _ (key : Key) (ls : List (List ℕ)) (line : List ℕ) (more : List (List ℕ)) (first : ls ≡ line ∷ more) where
  pub texts_pass : None ≡ after (word_of key) line → texts key ls ≡ texts key more
  unfolding texts
  texts_pass text = ap (texts key) first ∙ ap (λ o. option_to_list o ++ texts key more) (sym text)

  pub texts_first : (t : List ℕ) → Some t ≡ after (word_of key) line → texts key ls ≡ t ∷ texts key more
  unfolding texts
  texts_first t text = ap (texts key) first ∙ ap (λ o. option_to_list o ++ texts key more) (sym text)

pub texts_end : (key : Key) (ls : List (List ℕ)) → ls ≡ [] → texts key ls ≡ []
unfolding texts
texts_end key ls e = ap (texts key) e

pub unreadable_at : (n : ℕ) (ls : List (List ℕ)) (i : ℕ) → i < length ls → readable (get_or ls i []) ≡ false → ((k : ℕ) → k < i → readable (get_or ls k []) ≡ true) → unreadable n ls ≡ Some (i + n)
unfolding unreadable
unreadable_at n [] i h here before = absurd (omega arith)
unreadable_at n (l ∷ ls) zero h here before = cond-false (readable l) (unreadable (suc n) ls) (Some n) here ∙ ap Some (let e : n ≡ 0 + n = omega arith in e)
unreadable_at n (l ∷ ls) (suc i) h here before =
    cond-true (readable l) (unreadable (suc n) ls) (Some n) (before 0 (omega arith))
    ∙ unreadable_at (suc n) ls i (omega arith) here (λ k j. before (suc k) (omega arith)) ∙ ap Some (let e : i + suc n ≡ suc i + n = omega arith in e)

pub unreadable_none : (n : ℕ) (ls : List (List ℕ)) → ((k : ℕ) → k < length ls → readable (get_or ls k []) ≡ true) → unreadable n ls ≡ None
unfolding unreadable
unreadable_none n [] all = refl
unreadable_none n (l ∷ ls) all =
    cond-true (readable l) (unreadable (suc n) ls) (Some n) (all 0 (omega arith)) ∙ unreadable_none (suc n) ls (λ k j. all (suc k) (omega arith))
