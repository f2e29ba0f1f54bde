-- A result whose error was made another.
use Rattle.std.proofs.Common.{◌≡◌, Ok, Err, Result, MatchResult, sym, subst}
use Rattle.std.specs.Result.{IsErrAnd}
use Rattle.std.proofs.lemmas.Result.{err_from_is_err_and}

pub mapped : {X Y Z : Type 0} (r : Result X Y) (s : Result X Z) {P P' : X → Type 0} {Q : Y → Type 0} {Q' : Z → Type 0} {F : Y → Z → Type 0}
    → MatchResult r P Q → MatchResult r (λ x. s ≡ Ok x) (λ e. IsErrAnd s (F e)) → ((x : X) → P x → P' x) → ((e : Y) (z : Z) → Q e → F e z → Q' z) → MatchResult s P' Q'
mapped (Ok x) s {P' = P'} {Q' = Q'} met e here there = subst (λ t. MatchResult t P' Q') (sym e) (here x met)
mapped (Err y) s {P' = P'} {Q' = Q'} met e here there =
    let p = err_from_is_err_and s e in
    subst (λ t. MatchResult t P' Q') (sym p.1) (there y p.0 met p.2)
