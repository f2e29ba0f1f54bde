-- A batching that stays where its stretch is kept, and the initial sum as that of the tensors of a table of bits.
use Rattle.std.proofs.Common.{◌≡◌, ℕ, ◌+◌, ◌-◌, ◌^◌, ◌<◌, ◌≤◌, is_some, List, map, length, take, sym, ap, ◌∙◌, subst, subst₂, arith, pow_mono, Option}
use Rattle.level.specs.Element.{Element, width}
use Rattle.level.specs.Laws.{Laws}
use Rattle.level.specs.declared.level.Level.{Ghosts}
use Rattle.multilinear.specs.Lent.{lent}
use Rattle.ring_switch.specs.Opening.{kept, rest}
use Rattle.ring_switch.specs.Slots.{slot_count}
use Rattle.ring_switch.proofs.SlotTensors.{slot}
use Rattle.ring_switch.specs.ClaimLaws.{opened, opened_carry, opened_last}
use Rattle.ring_switch.specs.Batching.{initial_sum}
use Rattle.closing.proofs.Ends.{sends, initial_same}
use Rattle.equality.specs.Tables.{Tabulated}
use Rattle.reduction.specs.Layout.{part, most, batching_start, table_start, weights_start, spare_start}
use Rattle.reduction.specs.Stretch.{Stands, opening_in, rows_in}
use Rattle.reduction.specs.Worked.{Batched, initial_in, weight_at}
use Rattle.reduction.specs.AnswerLaws.{Opens}
use Rattle.reduction.specs.declared.opened.Opened.{Opened}
use Rattle.reduction.proofs.Cut.{part_kept}
use Rattle.reduction.proofs.Fitting.{below_power}
use Rattle.reduction.proofs.Standing.{point_kept, variables_are}
use Rattle.reduction.proofs.Values.{tensor_opened, carry_opened, last_opened}
use Rattle.reduction.proofs.Working.{opening_kept}

pub initial_opened : {X : Type 0} (L : Ghosts X) → Laws L.arithmetic → (c : ℕ) (o : Opened) (bits : ℕ → ℕ) (xs : List X) → Opens L c o bits xs
    → (α : Option (Element L.log)) → is_some α ≡ is_some (kept L.log o.view)
    → initial_in L c α xs ≡ (let p = opening_in L c o xs in
    initial_sum L.arithmetic (rows_in L (table_start L.log c) xs) α (opened L.arithmetic p bits) (opened_carry L.arithmetic p bits) (opened_last L.arithmetic p bits))
initial_opened L laws c o bits xs opens α e =
    initial_same L.arithmetic (rows_in L (table_start L.log c) xs) α _ _ _ _ _ _ (tensor_opened L laws c o bits xs opens)
    (λ y. carry_opened L laws c o bits xs opens (sends L.log o.view (sym e ∙ y))) (λ y. last_opened L laws c o bits xs opens (sends L.log o.view (sym e ∙ y)))

module _ {X : Type 0} (L : Ghosts X) (laws : Laws L.arithmetic) (c : ℕ) (o : Opened) (b : ℕ) (xs ys : List X)
    (h : spare_start L.log c ≤ b) (e : take b xs ≡ take b ys) where
  -- the batching weights of an element's coordinates
  pub rows_kept : rows_in L (table_start L.log c) xs ≡ rows_in L (table_start L.log c) ys
  rows_kept = ap (lent L.means) (part_kept (table_start L.log c) (width L.log) b xs ys e (omega (arith, h)))

  module _ (s : Stands L c o xs) where
    same : opening_in L c o xs ≡ opening_in L c o ys
    same = opening_kept L laws c o b xs ys s (omega (arith, h)) e

    fits : slot_count L.arithmetic (opening_in L c o xs) ≤ most L.log c
    fits =
        let q = opening_in L c o xs in
        let l : length (rest L.arithmetic q) ≤ c - L.log = omega (arith, (slot laws q).coordinates, variables_are L c o xs s, s.within) in
        pow_mono l

    pub batched_kept : (α : Option (Element L.log)) → Batched L c o α xs → Batched L c o α ys
    batched_kept α w =
        let k = L.log in
        let n = slot_count L.arithmetic (opening_in L c o xs) in
        record {
          table_is = subst₂ (λ (ps ts : List X). Tabulated L.means L.arithmetic L.arithmetic.unit (map L.means ps) ts)
              (part_kept (batching_start k c) k b xs ys e (omega (arith, h, below_power k)))
              (part_kept (table_start k c) (width k) b xs ys e (omega (arith, h))) w.table_is;
          weights_are = λ i l.
              ap (λ m. lent L.means (part (weights_start k c) (slot_count L.arithmetic m) ys) i) (sym same)
              ∙ ap (λ zs. lent L.means zs i) (sym (part_kept (weights_start k c) n b xs ys e (omega (arith, h, fits))))
              ∙ w.weights_are i (subst (λ m. i < slot_count L.arithmetic m) (sym same) l)
              ∙ ap (λ zs. weight_at L o zs (rows_in L (table_start k c) xs) α i) (point_kept L c o b xs ys s.within (omega (arith, h)) e)
              ∙ ap (λ f. weight_at L o (part (most k c) o.variables ys) f α i) rows_kept;
        }
