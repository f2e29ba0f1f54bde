-- One step of the successor element's fold from the last coordinates of two points to the first.
use Rattle.std.specs.Prelude.{ℕ}
use Rattle.level.specs.Element.{Element, plus}
use Rattle.level.specs.Laws.{Arithmetic}
use Rattle.tensor_algebra.specs.Tensor.{Tensor, exterior, add, equality_factor}

-- the equality factor of coordinates a and b on t, and the carry c ⊗ d as it settles there
abbrev pub stepped : {k : ℕ} → Arithmetic k → Element k → Element k → Element k → Element k → Tensor k → Tensor k
stepped A a b c d t = add (equality_factor A a b t) (exterior (A.times c (plus A.unit a)) (A.times d b))
