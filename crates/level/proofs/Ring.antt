-- The ring of a level's elements: what follows from its laws.
use Rattle.std.proofs.Common.{◌≡◌, ℕ, sym, ap, ◌∙◌, ap₂}
use Rattle.level.specs.Element.{Element, plus, zeros}
use Rattle.level.specs.Laws.{Arithmetic, Laws}
use Rattle.level.proofs.Elements.{plus_self}

module _ {k : ℕ} {A : Arithmetic k} (laws : Laws A) where
  pub times_left_comm : (x y z : Element k) → A.times x (A.times y z) ≡ A.times y (A.times x z)
  times_left_comm x y z = sym (laws.times_assoc x y z) ∙ ap (λ w. A.times w z) (laws.times_comm x y) ∙ laws.times_assoc y x z

  pub times_zeros : (x : Element k) → A.times x (zeros k) ≡ zeros k
  times_zeros x = ap (A.times x) (sym (plus_self (zeros k))) ∙ laws.times_plus x (zeros k) (zeros k) ∙ plus_self (A.times x (zeros k))

  pub plus_times : (x y z : Element k) → A.times (plus x y) z ≡ plus (A.times x z) (A.times y z)
  plus_times x y z = laws.times_comm (plus x y) z ∙ laws.times_plus z x y ∙ ap₂ plus (laws.times_comm z x) (laws.times_comm z y)

  pub unit_times : (x : Element k) → A.times A.unit x ≡ x
  unit_times x = laws.times_comm A.unit x ∙ laws.times_unit x

  pub zeros_times : (x : Element k) → A.times (zeros k) x ≡ zeros k
  zeros_times x = laws.times_comm (zeros k) x ∙ times_zeros x
