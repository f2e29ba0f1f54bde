-- Lists of elements as text: each element as its text, with single spaces between them.
use Rattle.std.specs.Prelude.{◌≡◌, ℕ, ◌+◌, ◌*◌, ◌%◌, ◌<◌, ◌≢◌, List, [], ◌∷◌, ◌++◌, length, take, drop, slice_index}
use Rattle.std.specs.List.{AllByRecursion}
use Rattle.level.specs.Element.{Element}
use Rattle.element_text.specs.Hex.{shown_bytes, Writes, NoDigit}
use Rattle.element_lists.specs.declared.elements.ElementsFault.{ElementsFault}
use Rattle.element_lists.specs.declared.elements.ElementsFault.TheVariants.{Shape, Digit, Memory}

-- texts with single spaces between them
unfoldable pub joined : List (List ℕ) → List ℕ
joined [] = []
joined (t ∷ []) = t
joined (t ∷ u ∷ ts) = t ++ (32 ∷ joined (u ∷ ts))

-- each text writes the element at its place
abbrev pub EachWrites : {k : ℕ} → List (List ℕ) → List (Element k) → Type 0
EachWrites [] [] = Unit {0}
EachWrites [] (x ∷ xs) = ⊥
EachWrites (t ∷ ts) [] = ⊥
EachWrites (t ∷ ts) (x ∷ xs) = Writes t x × EachWrites ts xs

-- the text writes the elements
pub record ElementsOf {k : ℕ} (text : List ℕ) (xs : List (Element k)) : Type 0 where
  pub texts : List (List ℕ)
  pub writes : EachWrites texts xs
  pub text_is : text ≡ joined texts

-- the digits of one element of log width k
abbrev pub digits_of : ℕ → ℕ
digits_of k = 2 * shown_bytes k

-- x is the element at place i, of so many digits: its text stands there, and a space after it if any character does
abbrev pub StandsAt : {k : ℕ} → List ℕ → ℕ → ℕ → Element k → Type 0
StandsAt text i digits x =
    Writes (take digits (drop (i * (digits + 1)) text)) x × (i * (digits + 1) + digits < length text → slice_index text (i * (digits + 1) + digits) ≡ 32)

-- the character after the element at place i, which has so many digits, is not the space that should stand there
abbrev pub NoSpace : List ℕ → ℕ → ℕ → Type 0
NoSpace text i digits = (i * (digits + 1) + digits < length text) × (slice_index text (i * (digits + 1) + digits) ≢ 32)

-- a character that should be a digit of an element, told by its place from 1, is none
abbrev pub NoDigitAt : ℕ → List ℕ → ℕ → Type 0
NoDigitAt digits text place = (at : ℕ) × (place ≡ at + 1) × (at < length text) × (at % (digits + 1) < digits) × NoDigit (slice_index text at)

-- why the element at place i is refused
abbrev pub BadElement : ℕ → List ℕ → ℕ → ElementsFault → Type 0
BadElement k text i (Shape digits) = (digits ≡ digits_of k) × NoSpace text i digits
BadElement k text i (Digit place) = NoDigitAt (digits_of k) text place
BadElement k text i Memory = ⊥

-- why a text is refused: it is not texts of so many characters with single spaces between them, or a character of one is no digit
abbrev pub BadElements : ℕ → List ℕ → ElementsFault → Type 0
BadElements k text (Shape digits) = (digits ≡ digits_of k) × ((ts : List (List ℕ)) → AllByRecursion (λ t. length t ≡ digits) ts → text ≢ joined ts)
BadElements k text (Digit place) = NoDigitAt (digits_of k) text place
BadElements k text Memory = Unit {0}

-- a refusal, other than for want of memory, is of a text that writes no elements
abbrev pub RefusedWriteNoElements : Type 0
RefusedWriteNoElements = (k : ℕ) (text : List ℕ) (xs : List (Element k)) (f : ElementsFault) → f ≢ Memory → BadElements k text f → ElementsOf text xs → ⊥

-- a text writes at most one list of elements
abbrev pub ElementsDetermined : Type 0
ElementsDetermined = (k : ℕ) (text : List ℕ) (xs ys : List (Element k)) → ElementsOf text xs → ElementsOf text ys → xs ≡ ys
