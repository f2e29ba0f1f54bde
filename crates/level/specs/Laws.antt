-- What a level's product is, and the laws that every level shows.
use Rattle.std.specs.Prelude.{◌≡◌, ℕ}
use Rattle.level.specs.Element.{Element, plus}

-- what a level chooses for itself over its coordinates: the sum and zero are the same at every level
pub record Arithmetic (k : ℕ) : Type 0 where
  pub times : Element k → Element k → Element k
  -- one
  pub unit : Element k
  -- the generator, of which no law speaks
  pub root : Element k

-- With the sum, which is the exclusive-or of the coordinates, these make the elements a commutative ring with one.
pub record Laws {k : ℕ} (A : Arithmetic k) : Type 0 where
  pub times_assoc : (x y z : Element k) → A.times (A.times x y) z ≡ A.times x (A.times y z)
  pub times_comm : (x y : Element k) → A.times x y ≡ A.times y x
  pub times_plus : (x y z : Element k) → A.times x (plus y z) ≡ plus (A.times x y) (A.times x z)
  pub times_unit : (x : Element k) → A.times x A.unit ≡ x
