-- What the answers of a stretch are, where it holds the packed elements of a table of bits: multilinear values, and sums over the slot.
use Rattle.std.specs.Prelude.{◌≡◌, ℕ, ◌≤◌, List, length, is_some, Option}
use Rattle.level.specs.Element.{Element}
use Rattle.level.specs.declared.level.Level.{Ghosts}
use Rattle.multilinear.specs.Cells.{packed}
use Rattle.multilinear.specs.Equality.{equality}
use Rattle.multilinear.specs.Sums.{sum}
use Rattle.ring_switch.specs.Opening.{named, kept, kept_rows}
use Rattle.ring_switch.specs.ClaimLaws.{Binary, value, value_one_row_on}
use Rattle.ring_switch.specs.Slots.{slot_table, slot_count, in_slot}
use Rattle.ring_switch.specs.Batching.{weight}
use Rattle.reduction.specs.Layout.{layout_end}
use Rattle.reduction.specs.Stretch.{Stands, opening_in}
use Rattle.reduction.specs.Worked.{Worked, Packs, Batched, incoming_in, successor_in, initial_in, weight_in, batching_in}
use Rattle.reduction.specs.declared.opened.Opened.{Opened}

module _ {X : Type 0} (L : Ghosts X) where
  -- a stretch holds the tensors of a table of bits that is opened
  pub record Opens (c : ℕ) (o : Opened) (bits : ℕ → ℕ) (xs : List X) : Type 0 where
    pub binary : Binary bits
    pub stands : Stands L c o xs
    pub worked : Worked L c o xs
    pub packs : Packs L c o bits xs

  -- the weight of entry i of the slot, by the batching point that the stretch holds
  abbrev pub weight_by_point : ℕ → Opened → Option (Element L.log) → List X → ℕ → Element L.log
  weight_by_point c o α xs =
      let p = opening_in L c o xs in
      weight L.arithmetic (equality L.arithmetic (batching_in L c xs)) (slot_table L.arithmetic p) (kept_rows p) α

  pub record AnswersStand : Type 0 where
    -- the incoming claim is the multilinear value of the bits at the point
    pub incoming_is : (c : ℕ) (o : Opened) (bits : ℕ → ℕ) (xs : List X) → Opens c o bits xs
        → incoming_in L c xs ≡ value L.arithmetic (opening_in L c o xs) bits
    -- the successor claim that of the bits one row on
    pub successor_is : (c : ℕ) (o : Opened) (bits : ℕ → ℕ) (xs : List X) → Opens c o bits xs
        → successor_in L c (named o.view) xs ≡ value_one_row_on L.arithmetic (opening_in L c o xs) bits
    -- the initial sum is that of the slot's packed elements, each times its weight
    pub initial_is : (c : ℕ) (o : Opened) (bits : ℕ → ℕ) (xs : List X) → Opens c o bits xs → (α : Option (Element L.log)) → is_some α ≡ is_some (kept L.log o.view)
        → initial_in L c α xs ≡ sum (slot_count L.arithmetic (opening_in L c o xs))
        (λ i. L.arithmetic.times (in_slot L.arithmetic (opening_in L c o xs) (packed L.log bits) i) (weight_in L c o α xs i))
    -- and the weights are those that the batching point gives
    pub weights_are : (c : ℕ) (o : Opened) (α : Option (Element L.log)) (xs : List X) → layout_end L.log c ≤ length xs → Batched L c o α xs
        → (i : ℕ) → weight_in L c o α xs i ≡ weight_by_point c o α xs i
