-- What packing bytes leaves in a lent slice.
use Rattle.std.specs.Prelude.{◌≡◌, ℕ, ◌<◌, List, drop}
use Rattle.level.specs.Element.{Element}
use Rattle.multilinear.specs.Cells.{cell, packed}
use Rattle.multilinear.specs.Lent.{lent}

-- the first `count` places hold the packed elements of a table of bits held in bytes, and those past them are left alone
pub record Packed {X : Type 0} {k : ℕ} (means : X → Element k) (bytes : List ℕ) (count : ℕ) (before after : List X) : Type 0 where
  pub elements : (w : ℕ) → w < count → lent means after w ≡ packed k (cell bytes) w
  pub rest : drop count after ≡ drop count before
