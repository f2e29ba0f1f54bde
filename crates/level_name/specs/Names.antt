-- The letters of levels, and the arithmetic of each level that has one.
use Rattle.std.specs.Prelude.{◌≡◌, ℕ, cond, List, Some, None, Option, Result, MatchResult, codes, ◌==◌}
use Rattle.level.specs.Laws.{Arithmetic}
use Rattle.doubling.specs.Doubled.{tower}
use Rattle.polynomial.specs.Polynomial.{polynomial}
use Rattle.level_name.specs.declared.LevelName.{LevelName}
use Rattle.level_name.specs.declared.LevelName.TheVariants.{TowerByte, Tower16, Tower32, Tower64, PolynomialByte}
use Rattle.level_name.specs.declared.UnknownLetter.{UnknownLetter}

-- the level that a letter's code names: b, w, d, q and a
abbrev pub named : ℕ → Option LevelName
named c =
    cond (c == 98) (Some TowerByte) (cond (c == 119) (Some Tower16) (cond (c == 100) (Some Tower32)
    (cond (c == 113) (Some Tower64) (cond (c == 97) (Some PolynomialByte) None))))

-- the code of a level's letter
abbrev pub letter_of : LevelName → ℕ
letter_of TowerByte = 98
letter_of Tower16 = 119
letter_of Tower32 = 100
letter_of Tower64 = 113
letter_of PolynomialByte = 97

-- the result is the level that a letter names, or an error with a letter that names none
abbrev pub Names : ℕ → Result LevelName UnknownLetter → Type 0
Names c r = MatchResult r (λ level. named c ≡ Some level) (λ e. (named c ≡ None) × (e.0 ≡ c))

abbrev pub unknown_letter_message : List ℕ
unknown_letter_message = codes "the level is none of b, w, d, q and a"

abbrev pub log_of : LevelName → ℕ
log_of TowerByte = 3
log_of Tower16 = 4
log_of Tower32 = 5
log_of Tower64 = 6
log_of PolynomialByte = 3

abbrev pub arithmetic_of : (name : LevelName) → Arithmetic (log_of name)
arithmetic_of TowerByte = tower 3
arithmetic_of Tower16 = tower 4
arithmetic_of Tower32 = tower 5
arithmetic_of Tower64 = tower 6
arithmetic_of PolynomialByte = polynomial
