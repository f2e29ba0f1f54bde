-- Both ends of the sumcheck of a batched reduction, by what its elements mean.
use Rattle.std.specs.Option.{option_map}
use Rattle.level.specs.declared.level.Level.{Ghosts}
use Rattle.level.specs.Element.{Element}
use Rattle.multilinear.specs.Equality.{Point}
use Rattle.tensor_algebra.specs.Tensor.{Tensor}
use Rattle.ring_switch.specs.Opening.{kept_rows, rest}
use Rattle.ring_switch.specs.Batching.{successor_rows, initial_sum, carry_element, last_element, closing_value}
use Rattle.opening.specs.Openings.{opening_of}
use Rattle.opening.specs.Batches.{rows_of}
use Rattle.opening.specs.declared.batch.BitRingSwitchBatch.{BitRingSwitchBatch}

module _ {X : Type 0} (L : Ghosts X) (b : BitRingSwitchBatch X L) where
  -- the coordinates of the slot
  abbrev pub slot_of : Point L.log
  slot_of = rest L.arithmetic (opening_of L b.reduction)

  -- the initial sum of a tensor, a carry and a last
  abbrev pub initial_sum_of : Tensor L.log → Tensor L.log → Tensor L.log → Element L.log
  initial_sum_of = initial_sum L.arithmetic (rows_of L b) (option_map L.means b.alpha)

  -- the successor share of the closing value at a closing point, under a challenge
  abbrev pub successor_share_of : Element L.log → Point L.log → Element L.log
  successor_share_of α z =
      let r = kept_rows (opening_of L b.reduction) in
      successor_rows L.arithmetic (rows_of L b) α (carry_element L.arithmetic r slot_of z) (last_element L.arithmetic r slot_of z)

  -- the closing value at a closing point
  abbrev pub closing_value_of : Point L.log → Element L.log
  closing_value_of = closing_value L.arithmetic (rows_of L b) slot_of (kept_rows (opening_of L b.reduction)) (option_map L.means b.alpha)
