-- A case that is read line by line, where what a reader holds is known.
use Rattle.std.proofs.Common.{◌≡◌, ℕ, ◌+◌, ◌-◌, ◌<◌, false, true, List, [], ◌∷◌, ◌++◌, length, take, drop, refl, sym, ap, ◌∙◌, take_all, length-append, append-nil, bytes_eq, arith}
use Rattle.std.proofs.Math.Seq.{drop-append_seam, take-append_seam}
use Rattle.std.proofs.lemmas.Option.{none-some, same_Some}
use Rattle.std.proofs.BufReadLemmas.{take_through-nil}
use Rattle.std.specs.Prelude.{Option, None, Some, IfSome}
use Rattle.std.specs.Io.BufRead.{take_through, drop_through, DropsThrough}
use Rattle.replies.specs.Cases.{between, in_first, cases, CaseRead}
use Rattle.replies.proofs.Splitting.{in_first_none, past_line, at_line, last_case}

-- case has been read off a text, where that is known, and what is left of it is known
abbrev pub HasRead : Option (List ℕ) → List ℕ → Option (List ℕ) → Type 0
HasRead known case left = IfSome known (λ text. (rest : List ℕ) × (left ≡ Some rest) × (cases text ≡ in_first case (cases rest)))

pub none_read : (known : Option (List ℕ)) (case : List ℕ) → case ≡ [] → HasRead known case known
none_read None case e = tt
none_read (Some text) case e = (text, refl, in_first_none text ∙ ap (λ l. in_first l (cases text)) (sym e))

-- a line more: grown is case and the line, left what was to be read before it
module _ (text case grown left : List ℕ) (first : cases text ≡ in_first case (cases left)) (is : grown ≡ case ++ take_through 10 left) where
  size_is : length grown ≡ length case + length (take_through 10 left)
  size_is = ap length is ∙ length-append case (take_through 10 left)

  line_is : take (length grown - length case) (drop (length case) grown) ≡ take_through 10 left
  line_is =
      ap (take (length grown - length case)) (ap (drop (length case)) is ∙ drop-append_seam case (take_through 10 left))
      ∙ take_all (length grown - length case) (take_through 10 left) (omega (arith, size_is))

  grown_by : length case < length grown → 0 < length (take_through 10 left)
  grown_by more = omega (arith, size_is, more)

  more_is : length case < length grown → bytes_eq (take (length grown - length case) (drop (length case) grown)) between ≡ false
      → cases text ≡ in_first grown (cases (drop_through 10 left))
  more_is more differs =
      past_line text case left (grown_by more) first (ap (λ l. bytes_eq l between) (sym line_is) ∙ differs)
      ∙ ap (λ l. in_first l (cases (drop_through 10 left))) (sym is)

  case_is : length case < length grown → bytes_eq (take (length grown - length case) (drop (length case) grown)) between ≡ true
      → cases text ≡ take (length case) grown ∷ cases (drop_through 10 left)
  case_is more same =
      at_line text case left (grown_by more) first (ap (λ l. bytes_eq l between) (sym line_is) ∙ same)
      ∙ ap (λ l. l ∷ cases (drop_through 10 left)) (sym (ap (take (length case)) is ∙ take-append_seam case (take_through 10 left)))

  end_is : length grown ≡ length case → cases text ≡ grown ∷ []
  end_is same =
      let none : left ≡ [] = take_through-nil 10 left (omega (arith, size_is, same)) in
      last_case text grown (first ∙ ap (in_first case) (ap cases none)
      ∙ ap (λ l. in_first l (cases [])) (sym (is ∙ ap (λ l. case ++ take_through 10 l) none ∙ append-nil case)))

-- the same of what a reader held before a line was read and holds after it
module _ (known before after : Option (List ℕ)) (case grown : List ℕ) (read : HasRead known case before)
    (bytes : IfSome before (λ xs. grown ≡ case ++ take_through 10 xs)) (dropped : DropsThrough before after 10) where
  at : {P : List ℕ → Type 0}
      → ((text left : List ℕ) → cases text ≡ in_first case (cases left) → grown ≡ case ++ take_through 10 left → after ≡ Some (drop_through 10 left) → P text)
      → IfSome known P
  at {P} k = of known before read bytes dropped
    where
      of : (known before : Option (List ℕ)) → HasRead known case before → IfSome before (λ xs. grown ≡ case ++ take_through 10 xs) → DropsThrough before after 10
          → IfSome known P
      of None before r b d = tt
      of (Some text) None r b d = absurd (none-some r.0 r.1)
      of (Some text) (Some left) r b d =
          k text left (r.2 ∙ ap (λ l. in_first case (cases l)) (sym (same_Some left r.0 r.1))) b d

  pub more_read : length case < length grown → bytes_eq (take (length grown - length case) (drop (length case) grown)) between ≡ false
      → HasRead known grown after
  more_read more differs = at (λ text left first is rest. (drop_through 10 left, rest, more_is text case grown left first is more differs))

  pub case_read : length case < length grown → bytes_eq (take (length grown - length case) (drop (length case) grown)) between ≡ true
      → IfSome known (λ text. CaseRead text (take (length case) grown) after true)
  case_read more same = at (λ text left first is rest. (drop_through 10 left, rest, case_is text case grown left first is more same))

  pub end_read : length grown ≡ length case → IfSome known (λ text. CaseRead text grown after false)
  end_read same = at (λ text left first is rest. (drop_through 10 left, rest, end_is text case grown left first is same))
