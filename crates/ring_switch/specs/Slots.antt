-- What an opening's slot is: the leading zeros and ones of the kept coordinates leave no other packed element a weight.
use Rattle.std.specs.Prelude.{◌≡◌, ℕ, ◌+◌, ◌-◌, ◌%◌, ◌^◌, ◌<◌, ◌≤◌, false, ◌⊎◌, length}
use Rattle.level.specs.Element.{Element, zeros}
use Rattle.level.specs.Laws.{Arithmetic}
use Rattle.multilinear.specs.Equality.{equality}
use Rattle.ring_switch.specs.Opening.{Opening, variables, high, kept_rows, prefix, rest, slot_start}
use Rattle.ring_switch.specs.Claims.{tensor, carry, last}
use Rattle.multilinear.specs.Columns.{starts, ends}

-- how many packed elements a table has, and how many of them the slot
abbrev pub packed_count : {k : ℕ} → Opening k → ℕ
packed_count o = 2 ^ variables o

abbrev pub slot_count : {k : ℕ} → Arithmetic k → Opening k → ℕ
slot_count A o = 2 ^ length (rest A o)

-- the packed elements of the slot alone
abbrev pub in_slot : {k : ℕ} → Arithmetic k → Opening k → (ℕ → Element k) → ℕ → Element k
in_slot A o t i = t (slot_start A o + i)

-- the equality tables of the kept coordinates and of the slot's
abbrev pub table : {k : ℕ} → Arithmetic k → Opening k → ℕ → Element k
table A o = equality A (high o)

abbrev pub slot_table : {k : ℕ} → Arithmetic k → Opening k → ℕ → Element k
slot_table A o = equality A (rest A o)

pub record Slot {k : ℕ} (A : Arithmetic k) (o : Opening k) : Type 0 where
  -- the slot has the kept coordinates but for the prefix
  pub coordinates : length (rest A o) ≡ variables o - (prefix A o).count
  -- it lies within the packed table
  pub within : slot_start A o + slot_count A o ≤ packed_count o
  -- the equality table of the kept coordinates is the slot's own in the slot, and zero outside
  pub inside : (i : ℕ) → i < slot_count A o → table A o (slot_start A o + i) ≡ slot_table A o i
  pub outside : (w : ℕ) → w < packed_count o → (w < slot_start A o) ⊎ (slot_start A o + slot_count A o ≤ w) → table A o w ≡ zeros k
  -- so the slot has the whole of the tensor
  pub whole_tensor : (t : ℕ → Element k) (u : ℕ) → tensor (packed_count o) (table A o) t u ≡ tensor (slot_count A o) (slot_table A o) (in_slot A o t) u

-- the slot by the columns of the row variables that the packing keeps
pub record SteppedSlot {k : ℕ} (A : Arithmetic k) (o : Opening k) : Type 0 where
  -- the slot's coordinates have the kept row coordinates among them
  pub row_coordinates : kept_rows o ≤ length (rest A o)
  -- the slot begins with a column, and its columns are those of the packed table
  pub aligned : slot_start A o % 2 ^ kept_rows o ≡ 0
  pub same_starts : (i : ℕ) → starts (kept_rows o) (slot_start A o + i) ≡ starts (kept_rows o) i
  pub same_ends : (i : ℕ) → ends (kept_rows o) (slot_start A o + i) ≡ ends (kept_rows o) i
  -- the element before one that starts no column is in the slot too
  pub before : (i : ℕ) → starts (kept_rows o) i ≡ false → slot_start A o + i - 1 ≡ slot_start A o + (i - 1)
  -- so the slot has the whole of the carry and of the last
  pub whole_carry : (t : ℕ → Element k) (u : ℕ)
      → carry (kept_rows o) (packed_count o) (table A o) t u ≡ carry (kept_rows o) (slot_count A o) (slot_table A o) (in_slot A o t) u
  pub whole_last : (t : ℕ → Element k) (u : ℕ)
      → last (kept_rows o) (packed_count o) (table A o) t u ≡ last (kept_rows o) (slot_count A o) (slot_table A o) (in_slot A o t) u
