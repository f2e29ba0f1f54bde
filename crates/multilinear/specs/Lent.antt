-- A lent slice of elements as a table of what they mean, zero past its end.
use Rattle.std.specs.Prelude.{ℕ, List, map, slice_index_or}
use Rattle.level.specs.Element.{Element, zeros}

abbrev pub lent : {X : Type 0} {k : ℕ} → (X → Element k) → List X → ℕ → Element k
lent {X} {k} means xs i = slice_index_or (map means xs) i (zeros k)
