-- Elements alone in the algebra, by the product of each leg with one.
use Rattle.std.proofs.Common.{◌≡◌, ℕ, refl, ap, ◌∙◌}
use Rattle.level.specs.Element.{Element}
use Rattle.level.specs.Laws.{Arithmetic, Laws}
use Rattle.tensor_algebra.specs.Tensor.{exterior, one, first_leg, second_leg, scale_rows, scale_columns}
use Rattle.tensor_algebra.specs.Legs.{Legs}
use Rattle.tensor_algebra.proofs.Columns.{scale_rows_exterior, scale_columns_exterior}

module _ {k : ℕ} {A : Arithmetic k} (laws : Laws A) where
  first_one : (u : ℕ) → first_leg A A.unit u ≡ one A u
  unfolding first_leg one
  first_one u = refl

  second_one : (u : ℕ) → second_leg A A.unit u ≡ one A u
  unfolding second_leg one
  second_one u = refl

  from_first : (a b : Element k) (u : ℕ) → scale_rows A b (first_leg A a) u ≡ exterior a b u
  unfolding first_leg
  from_first a b u = scale_rows_exterior laws b a A.unit u ∙ ap (λ y. exterior a y u) (laws.times_unit b)

  from_second : (a b : Element k) (u : ℕ) → scale_columns A a (second_leg A b) u ≡ exterior a b u
  unfolding second_leg
  from_second a b u = scale_columns_exterior laws a A.unit b u ∙ ap (λ x. exterior x b u) (laws.times_unit a)

  pub legs : Legs A
  legs = record {
    first_one = first_one;
    second_one = second_one;
    from_first = from_first;
    from_second = from_second;
  }
