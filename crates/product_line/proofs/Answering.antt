-- The answer to a line from the answer to what follows its letter.
use Rattle.std.proofs.Common.{◌≡◌, ℕ, ◌-◌, ◌<◌, List, ◌∷◌, length, get_or, take, drop, Some, Result, sym, ◌∙◌, ap₂, MatchResult}
use Rattle.std.proofs.lemmas.Result.{MatchResult-weaker}
use Rattle.std.proofs.lemmas.List.{drop_more, take_rest}
use Rattle.product_line.specs.Lines.{Product, BadRest}
use Rattle.level_name.specs.Names.{named, log_of, arithmetic_of}
use Rattle.level_name.specs.declared.LevelName.{LevelName}
use Rattle.product_line.specs.Letters.{Answer, BadLine}
use Rattle.product_line.specs.declared.line.LineFault.{LineFault}
use Rattle.product_line.specs.declared.line.LineFault.TheVariants.{Letter, Shape, Digit, Memory}

module _ (line rest : List ℕ) (letter : ℕ) (level : LevelName) (line_is : line ≡ letter ∷ rest) (level_is : named letter ≡ Some level) where
  bad : (f : LineFault) → BadRest (log_of level) rest f → BadLine line f
  bad Letter h = absurd h
  bad (Shape n) h = record { letter = letter; rest = rest; level = level; line_is = line_is; level_is = level_is; bad = h }
  bad (Digit p) h = record { letter = letter; rest = rest; level = level; line_is = line_is; level_is = level_is; bad = h }
  bad Memory h = record { letter = letter; rest = rest; level = level; line_is = line_is; level_is = level_is; bad = h }

  pub answered : {S : Type 0} (text : S → List ℕ) (r : Result S LineFault) → MatchResult r (λ s. Product (arithmetic_of level) rest (text s)) (BadRest (log_of level) rest) → MatchResult r (λ s. Answer line (text s)) (BadLine line)
  answered text r h =
      MatchResult-weaker r h
      (λ s p. record { letter = letter; rest = rest; level = level; line_is = line_is; level_is = level_is; product = p }) bad

-- a line by its first character, here as the code has it, and the rest
pub first_and_rest : (line : List ℕ) (first : ℕ) → 0 < length line → first ≡ get_or line 0 0 → line ≡ first ∷ take (length line - 1) (drop 1 line)
first_and_rest line first h e = drop_more line 0 0 h ∙ ap₂ (λ (x : ℕ) (l : List ℕ). x ∷ l) (sym e) (sym (take_rest line 1))
