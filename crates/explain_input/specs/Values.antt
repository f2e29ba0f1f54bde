-- Numbers and letters as text.
use Rattle.std.specs.Prelude.{◌≡◌, ℕ, ◌^◌, ◌<◌, Bool, true, ◌||◌, List, [], ◌∷◌, ◌==◌}
use Rattle.std.specs.Str.Parse.{IsNumeral, digits_value}

-- decimal digits that write a number below 2^64
abbrev pub Number : List ℕ → ℕ → Type 0
Number text n = IsNumeral 10 text × (n ≡ digits_value 10 text) × (n < 2 ^ 64)

abbrev pub NoNumber : List ℕ → Type 0
NoNumber text = (n : ℕ) → Number text n → ⊥

-- b, w, d, q or a
abbrev pub level_letter : ℕ → Bool
level_letter c = c == 98 || c == 119 || c == 100 || c == 113 || c == 97

-- the letter of a level, alone
abbrev pub Letter : List ℕ → ℕ → Type 0
Letter text c = (text ≡ c ∷ []) × (level_letter c ≡ true)

abbrev pub NoLetter : List ℕ → Type 0
NoLetter text = (c : ℕ) → Letter text c → ⊥
