-- An element's first 128 coordinates as sixteen bytes, and an element from sixteen bytes.
use Rattle.std.specs.Prelude.{◌≡◌, ℕ, zero, suc, ◌+◌, ◌*◌, ◌/◌, ◌%◌, ◌^◌, ◌<◌, max, List, [], ◌∷◌, length, slice_index}
use Rattle.level.specs.Element.{Element, width, coordinate, cut}

-- how many bytes the coordinates of an element take: eight to a byte, and one byte where there are fewer
abbrev pub num_bytes : ℕ → ℕ
num_bytes k = max 1 (width k / 8)

-- the lowest k base-256 digits of a number, least first
unfoldable pub digits : ℕ → ℕ → List ℕ
digits zero n = []
digits (suc k) n = (n % 256) ∷ digits k (n / 256)

-- the number that digits of base 256 write, least first
unfoldable pub le_number : List ℕ → ℕ
le_number [] = 0
le_number (b ∷ bs) = b + 256 * le_number bs

-- the first 128 coordinates: coordinate 8j + b is binary digit b of byte j
unfoldable pub sixteen : {k : ℕ} → Element k → List ℕ
sixteen x = digits 16 x.number

-- the element whose coordinates are read off so: the number's binary digits, as many as the level has coordinates
unfoldable pub from_sixteen : (k : ℕ) → List ℕ → Element k
from_sixteen k bs = cut k (le_number bs)

-- every entry is a byte
abbrev pub Octets : List ℕ → Type 0
Octets bs = (j : ℕ) → slice_index bs j < 256

-- What a level maker reads off the sixteen bytes, and relies on in those that an element is made from.
pub record BytesAreCoordinates : Type 0 where
  pub shown_length : {k : ℕ} (x : Element k) → length (sixteen x) ≡ 16
  pub shown : {k : ℕ} (x : Element k) (j b : ℕ) → j < 16 → b < 8 → slice_index (sixteen x) j / 2 ^ b % 2 ≡ coordinate x (8 * j + b)
  pub shown_octets : {k : ℕ} (x : Element k) → Octets (sixteen x)
  pub made : (k : ℕ) (bs : List ℕ) (j b : ℕ) → Octets bs → b < 8 → 8 * j + b < 2 ^ k → coordinate (from_sixteen k bs) (8 * j + b) ≡ slice_index bs j / 2 ^ b % 2
  pub past_width : {k : ℕ} (x : Element k) (u : ℕ) → 2 ^ k < suc u → coordinate x u ≡ 0
