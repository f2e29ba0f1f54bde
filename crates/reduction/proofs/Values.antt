-- What the answers of a stretch are, by a table of bits: multilinear values, and the sum over the slot.
use Rattle.std.proofs.Common.{◌≡◌, ℕ, ◌+◌, ◌-◌, ◌^◌, ◌<◌, ◌≤◌, is_some, List, map, length, take, drop, refl, sym, ap, ◌∙◌, subst, arith, Option, length-take-le, length-drop}
use mathlib.Core.Path.{fun_ext}
use lib.ListN.{length-map}
use Rattle.level.specs.Element.{Element, width}
use Rattle.level.specs.Laws.{Laws}
use Rattle.level.specs.declared.level.Level.{Ghosts}
use Rattle.multilinear.specs.Cells.{packed}
use Rattle.multilinear.specs.Equality.{equality}
use Rattle.multilinear.specs.Lent.{lent}
use Rattle.multilinear.specs.Sums.{sum}
use Rattle.ring_switch.specs.Opening.{Opening, named, kept, kept_rows, low}
use Rattle.ring_switch.specs.Claims.{tensor, carry, last}
use Rattle.ring_switch.specs.ClaimLaws.{Binary, opened, opened_carry, opened_last, value, value_one_row_on}
use Rattle.ring_switch.specs.Slots.{packed_count, table, slot_table, slot_count, in_slot}
use Rattle.ring_switch.proofs.SlotPrefix.{low_length}
use Rattle.ring_switch.proofs.SlotTensors.{slot, stepped_slot}
use Rattle.ring_switch.proofs.Initial.{initial_weighted}
use Rattle.closing.proofs.Agreeing.{weight_agrees}
use Rattle.closing.proofs.Ends.{sends, initial_same}
use Rattle.claims.proofs.Opened.{incoming_opened, successor_opened}
use Rattle.folding.proofs.Openings.{tensor_same, carry_same, last_same}
use Rattle.reduction.specs.Layout.{part, tensor_start, carry_start, last_start, low_start, batching_start, table_start, layout_end}
use Rattle.reduction.proofs.Fitting.{below_power}
use Rattle.reduction.specs.Stretch.{Stands, opening_in, rows_in}
use Rattle.reduction.specs.Worked.{Worked, Packs, Batched, incoming_in, successor_in, initial_in, weight_in, batching_in}
use Rattle.reduction.specs.AnswerLaws.{Opens, weight_by_point}
use Rattle.reduction.specs.declared.opened.Opened.{Opened}

module _ {X : Type 0} (L : Ghosts X) (laws : Laws L.arithmetic) (c : ℕ) (o : Opened) (bits : ℕ → ℕ) (xs : List X) (opens : Opens L c o bits xs) where
  s : Stands L c o xs
  s = opens.stands

  w : Worked L c o xs
  w = opens.worked

  p : Packs L c o bits xs
  p = opens.packs

  abbrev at : Opening L.log
  at = opening_in L c o xs

  pub tensor_opened : rows_in L (tensor_start L.log c) xs ≡ opened L.arithmetic (opening_in L c o xs) bits
  tensor_opened =
      w.tensor_is ∙ fun_ext (λ u. tensor_same (packed_count at) (table L.arithmetic at) (table L.arithmetic at) (lent L.means xs) (packed L.log bits) (λ i _. refl) p u)

  pub carry_opened : L.log < named o.view → rows_in L (carry_start L.log c) xs ≡ opened_carry L.arithmetic (opening_in L c o xs) bits
  carry_opened h =
      w.carry_is h ∙ fun_ext (λ u. carry_same (packed_count at) (table L.arithmetic at) (table L.arithmetic at) (lent L.means xs) (packed L.log bits) (λ i _. refl) p (kept_rows at) u)

  pub last_opened : L.log < named o.view → rows_in L (last_start L.log c) xs ≡ opened_last L.arithmetic (opening_in L c o xs) bits
  last_opened h =
      w.last_is h ∙ fun_ext (λ u. last_same (packed_count at) (table L.arithmetic at) (table L.arithmetic at) (lent L.means xs) (packed L.log bits) (λ i _. refl) p (kept_rows at) u)

  absorbs : L.log ≤ length (opening_in L c o xs).point
  absorbs = omega (arith, length-map (part (2 ^ (c - L.log)) o.variables xs) L.means, s.fits.len, s.fits.absorbs)

  within : named o.view ≤ length (opening_in L c o xs).point
  within = omega (arith, length-map (part (2 ^ (c - L.log)) o.variables xs) L.means, s.fits.len, s.fits.rows)

  -- the table of the absorbed coordinates, entry by entry
  lows : (v : ℕ) → v < width L.log → rows_in L (low_start L.log c) xs v ≡ equality L.arithmetic (low (opening_in L c o xs)) v
  lows v h = w.low_is.entries v (subst (λ n. v < 2 ^ n) (sym (low_length at absorbs)) h)

  pub incoming_value : incoming_in L c xs ≡ value L.arithmetic (opening_in L c o xs) bits
  incoming_value = incoming_opened laws at bits opens.binary absorbs (rows_in L (low_start L.log c) xs) lows (rows_in L (tensor_start L.log c) xs) tensor_opened

  pub successor_value : successor_in L c (named o.view) xs ≡ value_one_row_on L.arithmetic (opening_in L c o xs) bits
  successor_value =
      successor_opened laws at bits opens.binary absorbs (rows_in L (low_start L.log c) xs) lows within (rows_in L (tensor_start L.log c) xs) (rows_in L (carry_start L.log c) xs)
      (rows_in L (last_start L.log c) xs) tensor_opened carry_opened last_opened

  pub initial_value : (α : Option (Element L.log)) → is_some α ≡ is_some (kept L.log o.view)
      → initial_in L c α xs ≡ sum (slot_count L.arithmetic (opening_in L c o xs))
      (λ i. L.arithmetic.times (in_slot L.arithmetic (opening_in L c o xs) (packed L.log bits) i) (weight_in L c o α xs i))
  initial_value α e =
      let A = L.arithmetic in
      let n = slot_count A at in
      let tab = slot_table A at in
      let t = in_slot A at (packed L.log bits) in
      let r = kept_rows at in
      let f = rows_in L (table_start L.log c) xs in
      let stepped = stepped_slot laws at within in
      initial_same A f α _ _ _ (tensor n tab t) (carry r n tab t) (last r n tab t) (tensor_opened ∙ fun_ext ((slot laws at).whole_tensor (packed L.log bits)))
      (λ y. carry_opened (sends L.log o.view (sym e ∙ y)) ∙ fun_ext (stepped.whole_carry (packed L.log bits)))
      (λ y. last_opened (sends L.log o.view (sym e ∙ y)) ∙ fun_ext (stepped.whole_last (packed L.log bits)))
      ∙ initial_weighted laws f tab r α n t

-- the weights by the batching point
pub weights_by_point : {X : Type 0} (L : Ghosts X) (c : ℕ) (o : Opened) (α : Option (Element L.log)) (xs : List X) → layout_end L.log c ≤ length xs → Batched L c o α xs → (i : ℕ)
    → weight_in L c o α xs i ≡ weight_by_point L c o α xs i
weights_by_point L c o α xs room b i =
    let p = opening_in L c o xs in
    weight_agrees L.arithmetic (rows_in L (table_start L.log c) xs) (equality L.arithmetic (batching_in L c xs)) (λ u h. b.table_is.entries u (subst (λ n. u < 2 ^ n) (sym long) h))
    (slot_table L.arithmetic p) (kept_rows p) α i
  where
    long : length (batching_in L c xs) ≡ L.log
    long = length-map (part (batching_start L.log c) L.log xs) L.means ∙ length-take-le L.log (drop (batching_start L.log c) xs) (omega (arith, length-drop (batching_start L.log c) xs, room, below_power L.log))
