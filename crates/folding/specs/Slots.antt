-- The three tensors of a slot table and what they are folded from, by what its elements mean.
use Rattle.std.specs.Prelude.{ℕ, length}
use Rattle.level.specs.declared.level.Level.{Ghosts}
use Rattle.level.specs.Element.{Element}
use Rattle.multilinear.specs.Lent.{lent}
use Rattle.tensor_algebra.specs.Tensor.{Tensor, exterior, scale_columns}
use Rattle.equality.specs.Tables.{entries_of}
use Rattle.ring_switch.specs.Claims.{tensor, carry, last}
use Rattle.folding.specs.Folds.{block, with_all, entering}
use Rattle.folding.specs.declared.slot_table.SlotTable.{SlotTable}

module _ {X : Type 0} (L : Ghosts X) (s : SlotTable X L) where
  -- the packed elements t, and the entries e of the equality table that is held in factors
  abbrev pub values_of : ℕ → Element L.log
  values_of = lent L.means s.values.now

  abbrev pub table_of : ℕ → Element L.log
  table_of = entries_of L.means L.arithmetic s.equality.outer.now s.equality.inner.now

  -- the sum of e(w) ⊗ t(w)
  abbrev pub slot_tensor : Tensor L.log
  slot_tensor = tensor (length s.values.now) table_of values_of

  -- the sum of e(w - 1) ⊗ t(w) over the w that start no column of 2^r entries
  abbrev pub slot_carry : ℕ → Tensor L.log
  slot_carry r = carry r (length s.values.now) table_of values_of

  -- the sum of e(w) ⊗ t(w) over the w that end one
  abbrev pub slot_last : ℕ → Tensor L.log
  slot_last r = last r (length s.values.now) table_of values_of

  -- a tensor, with the sum of every block's elements against shared left factors added, its columns scaled by the block's outer weight
  abbrev pub with_blocks : (ℕ → Element L.log) → Tensor L.log → Tensor L.log
  with_blocks left t =
      with_all t (λ b. scale_columns L.arithmetic (lent L.means s.equality.outer.now b) (block (length s.equality.inner.now) left values_of b)) (length s.equality.outer.now)

  -- entry v of the table beside element w
  abbrev pub term_of : ℕ → ℕ → Tensor L.log
  term_of v w = exterior (table_of v) (values_of w)

  -- what enters block b from the block before it, and a tensor with what enters every block added
  abbrev pub entering_of : ℕ → ℕ → Tensor L.log
  entering_of r = entering r (length s.equality.inner.now) table_of values_of

  abbrev pub with_entering : ℕ → Tensor L.log → Tensor L.log
  with_entering r t = with_all t (entering_of r) (length s.equality.outer.now)
