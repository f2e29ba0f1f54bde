-- What `lines` and `after` are, by laws that leave no choice.
use Rattle.std.proofs.Common.{◌≡◌, ℕ, suc, true, false, cond, eqb, ◌⊎◌, List, [], ◌∷◌, ◌++◌, length, drop, Some, None, Option, sym, refl, ap, ◌∙◌, ap₂, inl, inr, arith}
use Rattle.std.proofs.lemmas.List.{append-nil, get_or_at, get_or_append_left, length-append, take_at}
use Rattle.std.proofs.lemmas.Bool.{cases_Bool, cond-true, cond-false, eqb-true}
use Rattle.explain_input.specs.Keys.{lines, spaced, after, LineOf, OneLine, Reading}
use Rattle.explain_input.proofs.Prefixes.{after_front}
use Rattle.explain_input.proofs.Splitting.{lines_at, lines_one}

first_line : (l rest : List ℕ) → OneLine l → lines (l ++ (10 ∷ rest)) ≡ l ∷ lines rest
first_line l rest h =
    let text = l ++ (10 ∷ rest) in
    let n = length l in
    lines_at text n (omega (arith, length-append l (10 ∷ rest)))
    (λ i k e. h i k (sym (get_or_append_left l (10 ∷ rest) 0 i k) ∙ e)) (get_or_at l 10 rest 0 n refl)
    ∙ ap₂ (λ (x y : List ℕ). x ∷ lines y) (take_at l (10 ∷ rest) n refl) (after_newline l)
  where
    after_newline : (m : List ℕ) → drop (suc (length m)) (m ++ (10 ∷ rest)) ≡ rest
    after_newline [] = refl
    after_newline (c ∷ m) = after_newline m

text_of : (word line text : List ℕ) → LineOf word line text → after word line ≡ Some text
text_of word line text (inl (e, f)) = ap (after word) (e ∙ sym (append-nil word)) ∙ after_front word [] ∙ ap Some (sym f)
text_of word line text (inr e) = ap (after word) e ∙ after_front word (32 ∷ text)

never : {X : Type 0} (text : List ℕ) → ◌≡◌ {A = Option (List ℕ)} None (Some text) → X
never text e = let z : ◌≡◌ {A = ℕ} 0 1 = cc in absurd (omega arith)

after_one : (c : ℕ) (line text : List ℕ) → spaced (c ∷ line) ≡ Some text → (eqb c 32 ≡ true) ⊎ (eqb c 32 ≡ false) → LineOf [] (c ∷ line) text
after_one c line text e (inl t) =
    let f : Some line ≡ Some text = sym (cond-true (eqb c 32) (Some line) None t) ∙ e in
    let g : line ≡ text = cc in
    inr (ap₂ (λ (x : ℕ) (l : List ℕ). x ∷ l) (eqb-true c 32 t) g)
after_one c line text e (inr t) = never text (sym (cond-false (eqb c 32) (Some line) None t) ∙ e)

after_more : (a c : ℕ) (word line text : List ℕ) → cond (eqb c a) (after word line) None ≡ Some text → (after word line ≡ Some text → LineOf word line text)
    → (eqb c a ≡ true) ⊎ (eqb c a ≡ false) → LineOf (a ∷ word) (c ∷ line) text
after_more a c word line text e next (inl t) = step (next (sym (cond-true (eqb c a) (after word line) None t) ∙ e))
  where
    step : LineOf word line text → LineOf (a ∷ word) (c ∷ line) text
    step (inl (f, g)) = inl (ap₂ (λ (x : ℕ) (l : List ℕ). x ∷ l) (eqb-true c a t) f, g)
    step (inr f) = inr (ap₂ (λ (x : ℕ) (l : List ℕ). x ∷ l) (eqb-true c a t) f)
after_more a c word line text e next (inr t) = never text (sym (cond-false (eqb c a) (after word line) None t) ∙ e)

line_of : (word line text : List ℕ) → after word line ≡ Some text → LineOf word line text
unfolding after
line_of [] [] text e = let f : text ≡ [] = cc in inl (refl, f)
line_of [] (c ∷ line) text e = after_one c line text e (cases_Bool (eqb c 32))
line_of (a ∷ word) [] text e = never text e
line_of (a ∷ word) (c ∷ line) text e = after_more a c word line text e (line_of word line text) (cases_Bool (eqb c a))

pub reading : Reading
unfolding lines
reading = record { no_line = refl; last_line = lines_one; first_line = first_line; text_of = text_of; line_of = line_of }
