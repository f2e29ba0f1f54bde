-- The lines of a report.
use Rattle.std.specs.Prelude.{ℕ, List, ◌++◌, Some, None, codes, Option}
use Rattle.level.specs.Element.{Element}
use Rattle.element_text.specs.Hex.{element_text}

-- the line of a word and a text
abbrev pub line : List ℕ → List ℕ → List ℕ
line word text = word ++ (codes " " ++ (text ++ codes "\n"))

-- the text of an element that there may be
abbrev pub optional_text : {k : ℕ} → Option (Element k) → List ℕ
optional_text None = codes "none"
optional_text (Some x) = element_text x
