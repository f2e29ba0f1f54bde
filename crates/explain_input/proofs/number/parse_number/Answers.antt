use Rattle.std.proofs.Common.{◌≡◌, ℕ, None, Ok, Err, Result, MatchResult, sym, ◌∙◌, arith}
use Rattle.std.specs.Result.{result_ok}
use Rattle.std.proofs.lemmas.Fmt.{IsAscii-from_digits}
use Rattle.std.proofs.lemmas.Str.{IsUtf8-from_ascii}
use Rattle.explain_input.proofs.number.parse_number.Goals as goal

refused : {S E : Type 0} (P : S → Type 0) (Q : Type 0) (R : E → Type 0) (r : Result S E) → result_ok r ≡ None → MatchResult r P (λ e. (Q → ⊥) × R e) → Q → ⊥
refused P Q R (Ok s) none h q = let z : ◌≡◌ {A = ℕ} 0 1 = cc in omega arith
refused P Q R (Err e) none h q = h.0 q

pub returns-in_err-ok : goal.returns-in_err-ok
returns-in_err-ok c =
    rw c.from_residual.ensures
    (λ n p. refused _ _ _ c.from_utf8.result (sym c.ok.ensures.value ∙ c.in_err-ok.was) c.from_utf8.ensures.cases (IsUtf8-from_ascii c.args.text.now (IsAscii-from_digits c.args.text.now p.0.1)))
