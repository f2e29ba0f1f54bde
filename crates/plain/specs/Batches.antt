-- The sums over a batching's slot, by what the elements mean.
use Rattle.std.specs.Prelude.{ℕ, not}
use Rattle.std.specs.Option.{option_map}
use Rattle.level.specs.declared.level.Level.{Ghosts}
use Rattle.level.specs.Element.{Element, plus}
use Rattle.level.specs.Laws.{Arithmetic}
use Rattle.multilinear.specs.Equality.{Point}
use Rattle.multilinear.specs.Sums.{sum, where_set}
use Rattle.multilinear.specs.Columns.{starts, ends}
use Rattle.multilinear.specs.Cells.{packed}
use Rattle.ring_switch.specs.Opening.{rest, kept_rows}
use Rattle.ring_switch.specs.Slots.{in_slot, slot_count}
use Rattle.ring_switch.specs.Batching.{initial_sum, closing_value}
use Rattle.ring_switch.specs.ClaimLaws.{opened, opened_carry, opened_last}
use Rattle.opening.specs.Openings.{opening_of}
use Rattle.opening.specs.Batches.{rows_of, weights_of}
use Rattle.opening.specs.declared.batch.BitRingSwitchBatch.{BitRingSwitchBatch}

-- the weight of entry i with a challenge α, from s(i) and s(i - 1), over columns of 2^r entries
abbrev pub carried_weight : {k : ℕ} → Arithmetic k → ℕ → Element k → Element k → Element k → ℕ → Element k
carried_weight A r α here before i =
    plus (plus here (where_set (not (starts r i)) (A.times α before))) (where_set (ends r i) (A.times (A.times α α) here))

-- what the closing elements make of a closing point
abbrev pub closing_of : {X : Type 0} (L : Ghosts X) → BitRingSwitchBatch X L → Point L.log → Element L.log
closing_of L b z = let o = opening_of L b.reduction in closing_value L.arithmetic (rows_of L b) (rest L.arithmetic o) (kept_rows o) (option_map L.means b.alpha) z

module _ {X : Type 0} (L : Ghosts X) (b : BitRingSwitchBatch X L) (bits : ℕ → ℕ) where
  -- the packed elements of the slot, each times its weight, added up
  abbrev pub weighted_sum : Element L.log
  weighted_sum =
      let o = opening_of L b.reduction in
      sum (slot_count L.arithmetic o) (λ i. L.arithmetic.times (in_slot L.arithmetic o (packed L.log bits) i) (weights_of L b i))

  -- the initial sum of the tensors of a table of bits
  abbrev pub initial_of : Element L.log
  initial_of =
      let o = opening_of L b.reduction in
      let A = L.arithmetic in
      initial_sum A (rows_of L b) (option_map L.means b.alpha) (opened A o bits) (opened_carry A o bits) (opened_last A o bits)
