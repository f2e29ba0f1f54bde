-- Elements as text: two lower-case hexadecimal digits a byte, byte 0 first, without gaps.
use Rattle.std.specs.Prelude.{◌≡◌, ℕ, ◌+◌, ◌-◌, ◌*◌, ◌/◌, ◌%◌, ◌<◌, ◌≤◌, min, cond, List, [], ◌∷◌, length, take, drop, replicate, ◌≢◌, nat_lt, slice_index, slice_index_or}
use Rattle.level.specs.Element.{Element}
use Rattle.level.specs.Bytes.{num_bytes, sixteen, from_sixteen, Octets}

-- the code of the digit of a number below 16
abbrev pub digit_code : ℕ → ℕ
digit_code v = cond (nat_lt v 10) (48 + v) (87 + v)

-- the text of bytes
unfoldable pub hex : List ℕ → List ℕ
hex [] = []
hex (b ∷ bs) = digit_code (b / 16) ∷ digit_code (b % 16) ∷ hex bs

-- how many of an element's bytes its text shows: all of them, as far as the sixteen that a level gives
unfoldable pub shown_bytes : ℕ → ℕ
shown_bytes k = min 16 (num_bytes k)

-- the text of an element
unfoldable pub element_text : {k : ℕ} → Element k → List ℕ
element_text {k} x = hex (take (shown_bytes k) (sixteen x))

-- the text writes the element: it is the text of the right number of bytes, and these are the element's coordinates
pub record Writes {k : ℕ} (text : List ℕ) (x : Element k) : Type 0 where
  pub bytes : List ℕ
  pub count : length bytes ≡ shown_bytes k
  pub octets : Octets bytes
  pub text_is : text ≡ hex bytes
  pub element_is : x ≡ from_sixteen k bytes

-- c is the code of no digit
abbrev pub NoDigit : ℕ → Type 0
NoDigit c = (v : ℕ) → v < 16 → c ≢ digit_code v

-- c is the code of a digit
abbrev pub IsDigit : ℕ → Type 0
IsDigit c = (v : ℕ) × (v < 16) × (c ≡ digit_code v)

-- sixteen bytes: those that the first 2·count characters of a text write, and zeroes after them
pub record Parsed (count : ℕ) (text bs : List ℕ) : Type 0 where
  pub length_is : length bs ≡ 16
  pub octets : Octets bs
  pub text_is : take (2 * count) text ≡ hex (take count bs)
  pub padded : drop count bs ≡ replicate (16 - count) 0

-- the first character of a text that is no digit stands at a place
pub record Broken (text : List ℕ) (at : ℕ) : Type 0 where
  pub no_digit : NoDigit (slice_index text at)
  pub before : (i : ℕ) → i < at → IsDigit (slice_index text i)

-- the two characters of byte j of a text, as digits of a byte
pub record Pair (text : List ℕ) (j b : ℕ) : Type 0 where
  pub high : slice_index_or text (2 * j) 0 ≡ digit_code (b / 16)
  pub low : slice_index_or text (2 * j + 1) 0 ≡ digit_code (b % 16)

-- the first of the two characters of byte j of a text that is no digit stands at a place
abbrev pub BrokenPair : List ℕ → ℕ → ℕ → Type 0
BrokenPair text j at = (at < 2 * j + 2) × (2 * j ≤ at) × NoDigit (slice_index text at) × (2 * j < at → IsDigit (slice_index text (2 * j)))
