-- A level and its letter.
use Rattle.std.proofs.Common.{◌≡◌, ℕ, cond, eqb, Some, Option, refl, sym, ap, ◌∙◌}
use Rattle.std.proofs.lemmas.Bool.{cond_both, eqb-true}
use Rattle.level_name.specs.Names.{named, letter_of}
use Rattle.level_name.specs.declared.LevelName.{LevelName}
use Rattle.level_name.specs.declared.LevelName.TheVariants.{TowerByte, Tower16, Tower32, Tower64, PolynomialByte}

-- a level's letter names it
pub named_letter : (level : LevelName) → named (letter_of level) ≡ Some level
named_letter TowerByte = refl
named_letter Tower16 = refl
named_letter Tower32 = refl
named_letter Tower64 = refl
named_letter PolynomialByte = refl

-- a code that names a level is the level's letter
pub letter_named : (c : ℕ) (level : LevelName) → named c ≡ Some level → letter_of level ≡ c
letter_named c level =
    case 98 TowerByte refl (case 119 Tower16 refl (case 100 Tower32 refl (case 113 Tower64 refl (case 97 PolynomialByte refl (λ e. cc)))))
  where
    case : (k : ℕ) (l : LevelName) → letter_of l ≡ k → {rest : Option LevelName} → (rest ≡ Some level → letter_of level ≡ c)
        → cond (eqb c k) (Some l) rest ≡ Some level → letter_of level ≡ c
    case k l letter {rest} else =
        cond_both (eqb c k) (Some l) rest (λ o. o ≡ Some level → letter_of level ≡ c)
        (λ t e. let is : l ≡ level = cc in sym (ap letter_of is) ∙ letter ∙ sym (eqb-true c k t)) (λ _. else)
