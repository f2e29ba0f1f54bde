-- Elements alone in the algebra, on either leg, and exterior products from them.
use Rattle.std.specs.Prelude.{◌≡◌, ℕ}
use Rattle.level.specs.Element.{Element}
use Rattle.level.specs.Laws.{Arithmetic}
use Rattle.tensor_algebra.specs.Tensor.{exterior, one, first_leg, second_leg, scale_rows, scale_columns}

pub record Legs {k : ℕ} (A : Arithmetic k) : Type 0 where
  -- one alone is one of the algebra, on either leg
  pub first_one : (u : ℕ) → first_leg A A.unit u ≡ one A u
  pub second_one : (u : ℕ) → second_leg A A.unit u ≡ one A u
  -- a ⊗ b is a alone on the first leg with its rows times b, and b alone on the second with its columns times a
  pub from_first : (a b : Element k) (u : ℕ) → scale_rows A b (first_leg A a) u ≡ exterior a b u
  pub from_second : (a b : Element k) (u : ℕ) → scale_columns A a (second_leg A b) u ≡ exterior a b u
