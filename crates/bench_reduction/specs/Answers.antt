-- What the operations answer, by the slices that they are lent.
use Rattle.std.specs.Prelude.{◌≡◌, ℕ, ◌^◌, List, length, Option}
use Rattle.level.specs.declared.level.Level.{Ghosts}
use Rattle.level.specs.Element.{Element}
use Rattle.multilinear.specs.Lent.{lent}
use Rattle.tensor_algebra.specs.Tensor.{Tensor}
use Rattle.equality.specs.Tables.{entries_of}
use Rattle.ring_switch.specs.Claims.{tensor, carry, last}
use Rattle.ring_switch.specs.Batching.{weight}

abbrev pub PowerOfTwo : ℕ → Type 0
PowerOfTwo n = (e : ℕ) × (n ≡ 2 ^ e)

-- over packed elements and the table that an outer and an inner factor hold
module _ {X : Type 0} (L : Ghosts X) (outer inner values : List X) where
  abbrev pub tensor_over : Tensor L.log
  tensor_over = tensor (length values) (entries_of L.means L.arithmetic outer inner) (lent L.means values)

  -- over columns of 2^r entries
  abbrev pub carry_over : ℕ → Tensor L.log
  carry_over r = carry r (length values) (entries_of L.means L.arithmetic outer inner) (lent L.means values)

  abbrev pub last_over : ℕ → Tensor L.log
  last_over r = last r (length values) (entries_of L.means L.arithmetic outer inner) (lent L.means values)

-- the weight of each entry of the table that the factors hold, from the batching weights of an element's coordinates, over columns of 2^r
-- entries under a challenge or without one
abbrev pub weight_over : {X : Type 0} (L : Ghosts X) → List X → List X → List X → ℕ → Option (Element L.log) → ℕ → Element L.log
weight_over L outer inner eq_batch = weight L.arithmetic (lent L.means eq_batch) (entries_of L.means L.arithmetic outer inner)
