-- Replies written case by case, where what the reader held is known.
use Rattle.std.proofs.Common.{◌≡◌, ℕ, Bool, false, true, cond, List, [], ◌∷◌, ◌++◌, sym, ap, ◌∙◌}
use Rattle.std.proofs.lemmas.Option.{none-some, same_Some}
use Rattle.std.proofs.KnownBytes.{Appends-trans}
use Rattle.std.specs.Prelude.{Option, None, Some, IfSome}
use Rattle.std.specs.Io.KnownBytes.{Appends}
use Rattle.report_lines.specs.Replies.{Reply}
use Rattle.replies.specs.Answering.{AppendsOne}
use Rattle.replies.specs.Cases.{between, cases, CaseRead, Replies}
use Rattle.replies.proofs.Splitting.{Before, before_more, before_none}

-- what has been written since replies to the cases of a text, where it is known, before what is left of it
abbrev pub Answered : Option (List ℕ) → Option (List ℕ) → Option (List ℕ) → Option (List ℕ) → Type 0
Answered known left first written =
    IfSome known (λ text. (rest : List ℕ) × (left ≡ Some rest) × (done : List ℕ) × Appends first written done × Before done (cases rest) (cases text))

module _ (known left after first written : Option (List ℕ)) (case : List ℕ) (more : Bool) (so_far : Answered known left first written)
    (read : IfSome left (λ rest. CaseRead rest case after more)) (reply : List ℕ) (replied : Reply case reply) where
  pub more_answered : (mid last : Option (List ℕ)) → more ≡ true → Appends written mid reply → Appends mid last between → Answered known after first last
  more_answered mid last is replying parting = of known left so_far read
    where
      of : (known left : Option (List ℕ)) → Answered known left first written → IfSome left (λ rest. CaseRead rest case after more) → Answered known after first last
      of None left a r = tt
      of (Some text) None a r = absurd (none-some a.0 a.1)
      of (Some text) (Some rest) a r =
          let cases_are : cases a.0 ≡ case ∷ cases r.0 =
          ap cases (sym (same_Some rest a.0 a.1)) ∙ r.2 ∙ ap (λ b. case ∷ cond b (cases r.0) []) is in (
            r.0,
            r.1,
            a.2 ++ (reply ++ between),
            Appends-trans _ _ _ a.2 (reply ++ between) a.3 (Appends-trans _ _ _ reply between replying parting),
            before_more a.2 (cases a.0) (cases text) a.4 case reply replied (cases r.0) cases_are,
          )

  pub all_answered : (last : Option (List ℕ)) → more ≡ false → Appends written last reply → IfSome known (λ text. AppendsOne (Replies (cases text)) first last)
  all_answered last is replying = of known left so_far read
    where
      of : (known left : Option (List ℕ)) → Answered known left first written → IfSome left (λ rest. CaseRead rest case after more)
          → IfSome known (λ text. AppendsOne (Replies (cases text)) first last)
      of None left a r = tt
      of (Some text) None a r = absurd (none-some a.0 a.1)
      of (Some text) (Some rest) a r =
          let case_is : cases a.0 ≡ case ∷ [] =
          ap cases (sym (same_Some rest a.0 a.1)) ∙ r.2 ∙ ap (λ b. case ∷ cond b (cases r.0) []) is in (
            a.2 ++ reply,
            before_none a.2 (cases a.0) (cases text) a.4 case reply replied case_is,
            Appends-trans _ _ _ a.2 reply a.3 replying,
          )
