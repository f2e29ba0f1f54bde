-- A line that asks for a product: a level's letter, a space, an element's text, a space, an element's text.
use Rattle.std.specs.Prelude.{◌≡◌, ℕ, ◌+◌, ◌*◌, ◌<◌, Bool, ◌&&◌, List, ◌∷◌, ◌++◌, length, ◌==◌, ◌≢◌, slice_index}
use Rattle.level.specs.Element.{Element}
use Rattle.level.specs.Laws.{Arithmetic}
use Rattle.element_text.specs.Hex.{Writes, element_text, shown_bytes, NoDigit}
use Rattle.product_line.specs.declared.line.LineFault.{LineFault}
use Rattle.product_line.specs.declared.line.LineFault.TheVariants.{Letter, Shape, Digit, Memory}

-- what follows the letter, with texts of n characters each; 32 is the space
pub record Operands (n : ℕ) (rest left right : List ℕ) : Type 0 where
  pub rest_is : rest ≡ 32 ∷ (left ++ (32 ∷ right))
  pub left_length : length left ≡ n
  pub right_length : length right ≡ n

-- a space and n characters, twice
abbrev pub shaped : ℕ → List ℕ → Bool
shaped n rest = length rest == 2 * n + 2 && slice_index rest 0 == 32 && slice_index rest (n + 1) == 32

-- the answer is the text of the product of the two elements that the rest of the line writes
pub record Product {k : ℕ} (A : Arithmetic k) (rest answer : List ℕ) : Type 0 where
  pub left : List ℕ
  pub right : List ℕ
  pub x : Element k
  pub y : Element k
  pub operands : Operands (2 * shown_bytes k) rest left right
  pub left_writes : Writes left x
  pub right_writes : Writes right y
  pub answer_is : answer ≡ element_text (A.times x y)

-- the character at a place of the line, counted from 1 at the letter, is none of the two spaces, and no digit
pub record NoDigitAt (digits : ℕ) (rest : List ℕ) (place : ℕ) : Type 0 where
  pub at : ℕ
  pub place_is : place ≡ at + 2
  pub inside : at < length rest
  pub first_space : at ≢ 0
  pub second_space : at ≢ digits + 1
  pub no_digit : NoDigit (slice_index rest at)

-- a rest of the right shape, with that many digits for each element, is refused for a character
abbrev pub BadOperand : ℕ → List ℕ → LineFault → Type 0
BadOperand digits rest Letter = ⊥
BadOperand digits rest (Shape n) = ⊥
BadOperand digits rest (Digit place) = NoDigitAt digits rest place
BadOperand digits rest Memory = ⊥

-- Why the rest of a line is refused: it has not the shape, with that many digits for each element; or a character of it other
-- than the two spaces is no digit; or there was no memory for the answer.
abbrev pub BadRest : ℕ → List ℕ → LineFault → Type 0
BadRest k rest Letter = ⊥
BadRest k rest (Shape digits) = (digits ≡ 2 * shown_bytes k) × ((left right : List ℕ) → Operands digits rest left right → ⊥)
BadRest k rest (Digit place) = NoDigitAt (2 * shown_bytes k) rest place
BadRest k rest Memory = Unit {0}
