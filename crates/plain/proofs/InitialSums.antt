-- The sum over a slot of packed elements times weights, as the initial sum of an opening's tensors.
use Rattle.std.proofs.Common.{◌≡◌, ℕ, ◌≤◌, length, Option, sym, ap, ◌∙◌, ap₂}
use mathlib.Core.Path.{fun_ext}
use Rattle.level.specs.Element.{Element}
use Rattle.level.specs.Laws.{Arithmetic, Laws}
use Rattle.multilinear.specs.Sums.{sum}
use Rattle.multilinear.specs.Cells.{packed}
use Rattle.ring_switch.specs.Opening.{Opening, named, kept_rows}
use Rattle.ring_switch.specs.Batching.{weight, initial_sum}
use Rattle.ring_switch.specs.Claims.{carry, last}
use Rattle.ring_switch.specs.ClaimLaws.{opened, opened_carry, opened_last}
use Rattle.ring_switch.specs.Slots.{in_slot, slot_count, slot_table}
use Rattle.ring_switch.proofs.SlotTensors.{slot, stepped_slot}
use Rattle.ring_switch.proofs.Initial.{initial_weighted}

module _ {k : ℕ} {A : Arithmetic k} (laws : Laws A) (f : ℕ → Element k) (bits : ℕ → ℕ) (o : Opening k) (α : Option (Element k)) where
  -- the slot has the whole of the three tensors
  pub slot_initial : named o.view ≤ length o.point
      → sum (slot_count A o) (λ i. A.times (in_slot A o (packed k bits) i) (weight A f (slot_table A o) (kept_rows o) α i))
      ≡ initial_sum A f α (opened A o bits) (opened_carry A o bits) (opened_last A o bits)
  slot_initial h =
      let s = stepped_slot laws o h in
      let t = packed k bits in
      let r = kept_rows o in
      let n = slot_count A o in
      let e = slot_table A o in
      let x = in_slot A o t in
      sym (initial_weighted laws f e r α n x)
      ∙ ap (λ y. initial_sum A f α y (carry r n e x) (last r n e x)) (sym (fun_ext (λ u. (slot laws o).whole_tensor t u)))
      ∙ ap₂ (initial_sum A f α (opened A o bits)) (sym (fun_ext (λ u. s.whole_carry t u))) (sym (fun_ext (λ u. s.whole_last t u)))
