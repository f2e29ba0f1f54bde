-- A line and the newline that may end it.
use Rattle.std.proofs.Common.{ℕ, [], ◌∷◌, ◌++◌, ◌≡◌, List, Some, None, Option, refl, inl, inr, Bor, MatchOption}
use Rattle.std.specs.Option.{unwrap_or}
use Rattle.product_line.specs.Letters.{Stripped}

pub stripped : (line : Bor (List ℕ)) (r : Option (Bor (List ℕ))) → MatchOption r ((rest : List ℕ) → line.now ≡ rest ++ (10 ∷ []) → ⊥) (λ x. line.now ≡ x.now ++ (10 ∷ []))
    → Stripped line.now (unwrap_or r line).now
stripped line None h = inr (refl, h)
stripped line (Some x) h = inl h
