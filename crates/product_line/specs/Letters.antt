-- The lines that a level's letter begins, and the replies to them.
use Rattle.std.specs.Prelude.{◌≡◌, ℕ, ◌⊎◌, List, [], ◌∷◌, ◌++◌, Some, None, codes, decimal, ◌≢◌}
use Rattle.level_name.specs.Names.{named, log_of, arithmetic_of}
use Rattle.level_name.specs.declared.LevelName.{LevelName}
use Rattle.product_line.specs.Lines.{Product, BadRest}
use Rattle.product_line.specs.declared.line.LineFault.{LineFault}
use Rattle.product_line.specs.declared.line.LineFault.TheVariants.{Letter, Shape, Digit, Memory}

-- the answer to a line: the product at the level that its letter names
pub record Answer (line answer : List ℕ) : Type 0 where
  pub letter : ℕ
  pub rest : List ℕ
  pub level : LevelName
  pub line_is : line ≡ letter ∷ rest
  pub level_is : named letter ≡ Some level
  pub product : Product (arithmetic_of level) rest answer

-- a line whose letter names a level, refused for what follows the letter
pub record Refused (line : List ℕ) (fault : LineFault) : Type 0 where
  pub letter : ℕ
  pub rest : List ℕ
  pub level : LevelName
  pub line_is : line ≡ letter ∷ rest
  pub level_is : named letter ≡ Some level
  pub bad : BadRest (log_of level) rest fault

-- why a line is refused: it begins with no letter of a level, or as what follows the letter is refused
abbrev pub BadLine : List ℕ → LineFault → Type 0
BadLine line Letter = (letter : ℕ) (rest : List ℕ) → line ≡ letter ∷ rest → named letter ≡ None
BadLine line (Shape digits) = Refused line (Shape digits)
BadLine line (Digit place) = Refused line (Digit place)
BadLine line Memory = Refused line Memory

-- the words for a refusal
abbrev pub fault_text : LineFault → List ℕ
fault_text Letter = codes "no level letter (b, w, d, q or a) at the start of the line"
fault_text (Shape digits) = codes "the letter is not followed by a space and " ++ (decimal digits ++ codes " digits, twice")
fault_text (Digit place) = codes "character " ++ (decimal place ++ codes " is no lower-case hexadecimal digit")
fault_text Memory = codes "no memory for the answer"

-- the reply to a line: its answer, or `error: ` and what is wrong with it; a want of memory is no reply
abbrev pub Reply : List ℕ → List ℕ → Type 0
Reply line reply = Answer line reply ⊎ ((fault : LineFault) × (fault ≢ Memory) × BadLine line fault × (reply ≡ codes "error: " ++ fault_text fault))

-- a line that has an answer has no reply but an answer
abbrev pub OnlyAnAnswer : Type 0
OnlyAnAnswer = (line answer reply : List ℕ) → Answer line answer → Reply line reply → Answer line reply

-- no reply begins with these words
abbrev pub NoneTellsOfMemory : Type 0
NoneTellsOfMemory = (line rest : List ℕ) → Reply line (codes "error: no memory" ++ rest) → ⊥

-- a line without the newline, byte 10, that may end it
abbrev pub Stripped : List ℕ → List ℕ → Type 0
Stripped line rest = (line ≡ rest ++ (10 ∷ [])) ⊎ ((line ≡ rest) × ((front : List ℕ) → line ≢ front ++ (10 ∷ [])))
