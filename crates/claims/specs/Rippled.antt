-- What ripples out of an element in the successor claim.
use Rattle.std.specs.Prelude.{ℕ, ◌-◌}
use Rattle.level.specs.Element.{Element, width, plus}
use Rattle.level.specs.Laws.{Arithmetic}
use Rattle.tensor_algebra.specs.Tensor.{Tensor, column}

-- with f the low coordinates' equality table, the weight of the last bit times the first column of the carry and the last column of the last
abbrev pub rippled : {k : ℕ} → Arithmetic k → (ℕ → Element k) → Tensor k → Tensor k → Element k
rippled {k} A f c l = A.times (f (width k - 1)) (plus (column c 0) (column l (width k - 1)))
