-- The weights of a batching, by what its elements mean.
use Rattle.std.specs.Prelude.{ℕ}
use Rattle.std.specs.Option.{option_map}
use Rattle.level.specs.declared.level.Level.{Ghosts}
use Rattle.level.specs.Element.{Element}
use Rattle.multilinear.specs.Lent.{lent}
use Rattle.ring_switch.specs.Opening.{kept_rows}
use Rattle.ring_switch.specs.Slots.{slot_table}
use Rattle.ring_switch.specs.Batching.{weight}
use Rattle.opening.specs.Openings.{opening_of}
use Rattle.opening.specs.declared.batch.BitRingSwitchBatch.{BitRingSwitchBatch}

module _ {X : Type 0} (L : Ghosts X) (b : BitRingSwitchBatch X L) where
  -- the batching weights of an element's coordinates
  abbrev pub rows_of : ℕ → Element L.log
  rows_of = lent L.means b.eq_batch.elements.now

  -- the weight of each entry of the slot
  abbrev pub weights_of : ℕ → Element L.log
  weights_of =
      let o = opening_of L b.reduction in
      weight L.arithmetic rows_of (slot_table L.arithmetic o) (kept_rows o) (option_map L.means b.alpha)
