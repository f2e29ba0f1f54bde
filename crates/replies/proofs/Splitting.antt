-- A text by its first line and the cases after it, and the replies by the first case.
use Rattle.std.proofs.Common.{◌≡◌, ℕ, ◌<◌, Bool, true, false, List, [], ◌∷◌, ◌++◌, length, refl, sym, ap, ◌∙◌, subst, append_assoc, append-nil, cond, ◌==◌, bytes_eq, arith}
use Rattle.std.proofs.lemmas.Bool.{cond_both, cond-true, cond-false}
use Rattle.std.specs.Io.BufRead.{take_through, drop_through}
use Rattle.explain_input.specs.Keys.{in_front}
use Rattle.report_lines.specs.Replies.{Reply}
use Rattle.replies.specs.Cases.{between, whole_lines, in_first, stretches, cases, Replies}

-- a text whose first byte is a newline or not, by its first line
by_first : (newline : Bool) (c : ℕ) (text : List ℕ) → in_front c (whole_lines text) ≡ (c ∷ take_through 10 text) ∷ whole_lines (drop_through 10 text)
    → cond newline ((c ∷ []) ∷ whole_lines text) (in_front c (whole_lines text))
    ≡ cond newline (c ∷ []) (c ∷ take_through 10 text) ∷ whole_lines (cond newline text (drop_through 10 text))
by_first true c text more = refl
by_first false c text more = more

-- the lines of a text that has a byte: the first ends at the first newline, or with the text
first_line : (c : ℕ) (text : List ℕ) → whole_lines (c ∷ text) ≡ take_through 10 (c ∷ text) ∷ whole_lines (drop_through 10 (c ∷ text))
unfolding whole_lines
first_line c [] = by_first (c == 10) c [] refl
first_line c (d ∷ text) = by_first (c == 10) c (d ∷ text) (ap (in_front c) (first_line d text))

in_first_twice : (a b : List ℕ) (ls : List (List ℕ)) → in_first a (in_first b ls) ≡ in_first (a ++ b) ls
in_first_twice a b [] = refl
in_first_twice a b (l ∷ ls) = ap (λ x. x ∷ ls) (sym (append_assoc a b l))

front_kept : (ls : List (List ℕ)) → 0 < length ls → ls ≡ in_first [] ls
front_kept [] h = absurd (omega arith)
front_kept (l ∷ ls) h = refl

in_first_some : (line : List ℕ) (ls : List (List ℕ)) → 0 < length (in_first line ls)
in_first_some line [] = omega arith
in_first_some line (l ∷ ls) = omega arith

stretches_kept : (ls : List (List ℕ)) → stretches ls ≡ in_first [] (stretches ls)
unfolding stretches
stretches_kept [] = refl
stretches_kept (l ∷ ls) =
    cond_both (bytes_eq l between) ([] ∷ stretches ls) (in_first l (stretches ls)) (λ x. x ≡ in_first [] x)
    (λ _. refl) (λ _. front_kept (in_first l (stretches ls)) (in_first_some l (stretches ls)))

-- nothing in front of the cases
pub in_first_none : (text : List ℕ) → cases text ≡ in_first [] (cases text)
in_first_none text = stretches_kept (whole_lines text)

-- one line further into a text: case has been read of it, and left is to be read
module _ (text case left : List ℕ) (some : 0 < length (take_through 10 left)) (first : cases text ≡ in_first case (cases left)) where
  begun : (left : List ℕ) → 0 < length (take_through 10 left) → cases left ≡ stretches (take_through 10 left ∷ whole_lines (drop_through 10 left))
  begun [] none = absurd (omega (arith, none))
  begun (c ∷ more) h = ap stretches (first_line c more)

  pub past_line : bytes_eq (take_through 10 left) between ≡ false → cases text ≡ in_first (case ++ take_through 10 left) (cases (drop_through 10 left))
  unfolding stretches
  past_line differs =
      first ∙ ap (in_first case) (begun left some)
      ∙ ap (in_first case) (cond-false (bytes_eq (take_through 10 left) between) _ _ differs)
      ∙ in_first_twice case (take_through 10 left) _

  pub at_line : bytes_eq (take_through 10 left) between ≡ true → cases text ≡ case ∷ cases (drop_through 10 left)
  unfolding stretches
  at_line same =
      first ∙ ap (in_first case) (begun left some)
      ∙ ap (in_first case) (cond-true (bytes_eq (take_through 10 left) between) _ _ same)
      ∙ ap (λ l. l ∷ cases (drop_through 10 left)) (append-nil case)

-- nothing is left of the text
pub last_case : (text case : List ℕ) → cases text ≡ in_first case (cases []) → cases text ≡ case ∷ []
unfolding stretches whole_lines
last_case text case first = first ∙ ap (λ l. l ∷ []) (append-nil case)

-- done stands before what is written for the cases ls, so that the whole is what is written for all
abbrev pub Before : List ℕ → List (List ℕ) → List (List ℕ) → Type 0
Before done ls all = (written : List ℕ) → Replies ls written → Replies all (done ++ written)

module _ (done : List ℕ) (ls all : List (List ℕ)) (so_far : Before done ls all) (first written : List ℕ) (reply : Reply first written) where
  -- the reply to the first case, and the line between
  pub before_more : (more : List (List ℕ)) → ls ≡ first ∷ more → Before (done ++ (written ++ between)) more all
  unfolding Replies
  before_more more is rest r =
      subst (Replies all) (ap (λ l. done ++ l) (sym (append_assoc written between rest)) ∙ sym (append_assoc done (written ++ between) rest))
      (so_far (written ++ (between ++ rest)) (subst (λ l. Replies l (written ++ (between ++ rest))) (sym is) (joined more r)))
    where
      joined : (more : List (List ℕ)) → Replies more rest → Replies (first ∷ more) (written ++ (between ++ rest))
      joined [] q = absurd q
      joined (next ∷ more) q = (written, rest, reply, q, refl)

  -- the reply to the last case
  pub before_none : ls ≡ first ∷ [] → Replies all (done ++ written)
  unfolding Replies
  before_none is = so_far written (subst (λ l. Replies l written) (sym is) reply)
