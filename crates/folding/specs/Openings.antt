-- Lent packed elements whose slot is opened, and a slot table of them.
use Rattle.std.specs.Prelude.{◌≡◌, ℕ, ◌<◌, List}
use Rattle.level.specs.declared.level.Level.{Ghosts}
use Rattle.level.specs.Element.{Element}
use Rattle.level.specs.Laws.{Arithmetic}
use Rattle.multilinear.specs.Lent.{lent}
use Rattle.ring_switch.specs.Opening.{Opening, rest, slot_start}
use Rattle.ring_switch.specs.Slots.{packed_count, slot_count, in_slot}
use Rattle.equality.specs.Tables.{Factors}
use Rattle.folding.specs.declared.slot_table.SlotTable.{SlotTable}
use Rattle.folding.specs.Slots.{values_of}

-- the lent elements are the packed elements t of an opened table, whose slot starts at a place and has the equality table that two lent
-- slices hold in factors
pub record Opens {X : Type 0} {k : ℕ} (means : X → Element k) (A : Arithmetic k) (o : Opening k) (t : ℕ → Element k) (elements : List X) (start : ℕ) (outers inners : List X) : Type 0 where
  pub elements_are : (w : ℕ) → w < packed_count o → lent means elements w ≡ t w
  pub start_is : start ≡ slot_start A o
  pub factors : Factors means A A.unit (rest A o) outers inners

-- a slot table has those packed elements that lie in the slot of an opening, and its two factors hold the slot's equality table
pub record SlotOpens {X : Type 0} (L : Ghosts X) (s : SlotTable X L) (o : Opening L.log) (t : ℕ → Element L.log) : Type 0 where
  pub values_are : (i : ℕ) → i < slot_count L.arithmetic o → values_of L s i ≡ in_slot L.arithmetic o t i
  pub factors : Factors L.means L.arithmetic L.arithmetic.unit (rest L.arithmetic o) s.equality.outer.now s.equality.inner.now
