-- The cases of a text, between which lines `--` stand, and the replies to them.
use Rattle.std.specs.Prelude.{◌≡◌, ℕ, cond, List, [], ◌∷◌, ◌++◌, codes, ◌==◌, bytes_eq, Bool, Option, Some, if◌then◌else◌}
use Rattle.explain_input.specs.Keys.{in_front}
use Rattle.report_lines.specs.Replies.{Reply}

-- the line that stands between cases, and between replies
abbrev pub between : List ℕ
between = codes "--\n"

-- the lines of a text, each with its newline; the last has none where no newline ends the text
unfoldable pub whole_lines : List ℕ → List (List ℕ)
whole_lines [] = []
whole_lines (c ∷ text) = cond (c == 10) ((c ∷ []) ∷ whole_lines text) (in_front c (whole_lines text))

-- a line in front of the first case
abbrev pub in_first : List ℕ → List (List ℕ) → List (List ℕ)
in_first line [] = line ∷ []
in_first line (first ∷ more) = (line ++ first) ∷ more

-- the stretches between the lines `--`, so one more than there are such lines
unfoldable pub stretches : List (List ℕ) → List (List ℕ)
stretches [] = [] ∷ []
stretches (line ∷ lines) = cond (bytes_eq line between) ([] ∷ stretches lines) (in_first line (stretches lines))

-- the cases of a text
abbrev pub cases : List ℕ → List (List ℕ)
cases text = stretches (whole_lines text)

-- a case that was read off a text, what is left of the text, where another case follows, and whether one does
abbrev pub CaseRead : List ℕ → List ℕ → Option (List ℕ) → Bool → Type 0
CaseRead text case left more = (rest : List ℕ) × (left ≡ Some rest) × (cases text ≡ case ∷ (if more then cases rest else []))

-- what is written for cases: a reply to each, in their order, with a line `--` between
unfoldable pub Replies : List (List ℕ) → List ℕ → Type 0
Replies [] written = ⊥
Replies (last ∷ []) written = Reply last written
Replies (first ∷ next ∷ more) written =
    (reply : List ℕ) × (rest : List ℕ) × Reply first reply × Replies (next ∷ more) rest × (written ≡ reply ++ (between ++ rest))
