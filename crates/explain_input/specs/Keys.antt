-- The lines of a text, and the texts that they give for each key.
use Rattle.std.specs.Prelude.{◌≡◌, ℕ, suc, ◌<◌, Bool, cond, ◌||◌, ◌≢◌, ◌⊎◌, List, [], ◌∷◌, ◌++◌, length, is_some, Some, None, codes, Option, ◌==◌, slice_index}
use Rattle.std.specs.Option.{option_to_list}
use Rattle.explain_input.specs.declared.key.Key.{Key}
use Rattle.explain_input.specs.declared.key.Key.TheVariants.{Level, Bits, Point, View, Batching, Challenge, Closing}

-- one more character in front of the first line
abbrev pub in_front : ℕ → List (List ℕ) → List (List ℕ)
in_front c [] = (c ∷ []) ∷ []
in_front c (l ∷ ls) = (c ∷ l) ∷ ls

-- the lines of a text, each ended by a newline, the last also by the end of the text
unfoldable pub lines : List ℕ → List (List ℕ)
lines [] = []
lines (c ∷ text) = cond (c == 10) ([] ∷ lines text) (in_front c (lines text))

abbrev pub word_of : Key → List ℕ
word_of Level = codes "level"
word_of Bits = codes "bits"
word_of Point = codes "point"
word_of View = codes "view"
word_of Batching = codes "batching"
word_of Challenge = codes "challenge"
word_of Closing = codes "closing"

-- what follows a word on its line: nothing where the line ends, and else what stands after a space
abbrev pub spaced : List ℕ → Option (List ℕ)
spaced [] = Some []
spaced (c ∷ text) = cond (c == 32) (Some text) None

-- what follows a word at the start of a line
unfoldable pub after : List ℕ → List ℕ → Option (List ℕ)
after [] line = spaced line
after (a ∷ word) [] = None
after (a ∷ word) (c ∷ line) = cond (c == a) (after word line) None

-- the texts of a key, in the order of their lines
unfoldable pub texts : Key → List (List ℕ) → List (List ℕ)
texts key [] = []
texts key (l ∷ ls) = option_to_list (after (word_of key) l) ++ texts key ls

-- a line is one of a key
abbrev pub given : Key → List ℕ → Bool
given key line = is_some (after (word_of key) line)

-- a line is one of any key
abbrev pub keyed : List ℕ → Bool
keyed line =
    given Level line || given Bits line || given Point line || given View line || given Batching line || given Challenge line
    || given Closing line

abbrev pub readable : List ℕ → Bool
readable line = length line == 0 || keyed line

-- the first line that is not readable, by its number, where the first has the number n
unfoldable pub unreadable : ℕ → List (List ℕ) → Option ℕ
unreadable n [] = None
unreadable n (l ∷ ls) = cond (readable l) (unreadable (suc n) ls) (Some n)

-- a line of a word gives a text: the line is the word alone and the text is empty, or the text stands after the word and a space
abbrev pub LineOf : List ℕ → List ℕ → List ℕ → Type 0
LineOf word line text = ((line ≡ word) × (text ≡ [])) ⊎ (line ≡ word ++ (32 ∷ text))

-- no character is a newline
abbrev pub OneLine : List ℕ → Type 0
OneLine l = (i : ℕ) → i < length l → slice_index l i ≢ 10

-- What `lines` and `after` are.
pub record Reading : Type 0 where
  pub no_line : lines [] ≡ []
  pub last_line : (l : List ℕ) → 0 < length l → OneLine l → lines l ≡ l ∷ []
  pub first_line : (l rest : List ℕ) → OneLine l → lines (l ++ (10 ∷ rest)) ≡ l ∷ lines rest
  pub text_of : (word line text : List ℕ) → LineOf word line text → after word line ≡ Some text
  pub line_of : (word line text : List ℕ) → after word line ≡ Some text → LineOf word line text
