-- What a batching leaves, put together.
use Rattle.std.proofs.Common.{zero-add, ◌≡◌, ℕ, ◌+◌, ◌-◌, ◌^◌, ◌<◌, ◌≤◌, List, map, ◌++◌, length, take, drop, sym, ap, ◌∙◌, subst, subst₂, arith, Option, pow_mono, length-append}
use Rattle.std.proofs.lemmas.List.{take-append-le, take_all}
use Rattle.level.specs.Element.{Element, width}
use Rattle.level.specs.Laws.{Laws}
use Rattle.level.specs.declared.level.Level.{Ghosts}
use Rattle.multilinear.specs.Lent.{lent}
use Rattle.multilinear.proofs.Places.{of_part}
use Rattle.ring_switch.specs.Opening.{rest}
use Rattle.ring_switch.specs.Slots.{slot_count}
use Rattle.ring_switch.proofs.SlotTensors.{slot}
use Rattle.equality.specs.Tables.{Tabulated}
use Rattle.reduction.specs.Layout.{part, most, batching_start, table_start, weights_start}
use Rattle.reduction.specs.Stretch.{Stands, opening_at, opening_in, point_in, rows_in}
use Rattle.reduction.specs.Worked.{Batched, weight_at, weight_in, weights_in}
use Rattle.reduction.specs.declared.opened.Opened.{Opened}
use Rattle.reduction.proofs.Cut.{first, second_whole, third}
use Rattle.reduction.proofs.Standing.{point_kept, stands_kept, variables_are}

module _ {X : Type 0} (L : Ghosts X) (laws : Laws L.arithmetic) (c : ℕ) (o : Opened) (α : Option (Element L.log)) (old h b p t w z : List X) where
  -- a stretch with the batching point b, its table t and the weights w behind what is kept
  abbrev made : List X
  made = h ++ ((b ++ p) ++ (t ++ (w ++ z)))

  module _ (s : Stands L c o old) (kept : take (batching_start L.log c) made ≡ take (batching_start L.log c) old) (at : length h ≡ batching_start L.log c)
      (eb : length b ≡ L.log) (ep : length (b ++ p) ≡ width L.log) (et : length t ≡ width L.log) (ew : length w ≡ most L.log c) where
    point : part (batching_start L.log c) L.log made ≡ b
    point =
        first (batching_start L.log c) L.log h at (b ++ p) (t ++ (w ++ z)) (omega (arith, length-append b p, eb)) ∙ take-append-le L.log b p (omega (arith, eb))
        ∙ take_all L.log b (omega (arith, eb))

    table : part (table_start L.log c) (width L.log) made ≡ t
    table = second_whole (batching_start L.log c) (width L.log) (width L.log) h (b ++ p) t (w ++ z) at ep et

    same : point_in L c o made ≡ point_in L c o old
    same = sym (point_kept L c o (batching_start L.log c) old made s.within (omega arith) (sym kept))

    fits : slot_count L.arithmetic (opening_in L c o made) ≤ length w
    fits =
        let s' = stands_kept L c o (batching_start L.log c) old made (omega arith) (sym kept) s in
        let q = opening_in L c o made in
        let e : length (rest L.arithmetic q) ≤ c - L.log = omega (arith, (slot laws q).coordinates, variables_are L c o made s', s.within) in
        let n : 2 ^ length (rest L.arithmetic q) ≤ 2 ^ (c - L.log) = pow_mono e in
        omega (arith, n, ew)

    weights : weights_in L c o made ≡ take (slot_count L.arithmetic (opening_in L c o made)) w
    weights = third (batching_start L.log c) (width L.log) (width L.log) (slot_count L.arithmetic (opening_in L c o made)) h (b ++ p) t w z at ep et fits

    pub batched : (xs : List X) → xs ≡ point_in L c o old → Tabulated L.means L.arithmetic L.arithmetic.unit (map L.means b) t
        → ((i : ℕ) → i < slot_count L.arithmetic (opening_at L o xs) → lent L.means w i ≡ weight_at L o xs (lent L.means t) α i)
        → Batched L c o α made
    batched xs e tabulated weighed = record {
      table_is = subst₂ (λ bs ts. Tabulated L.means L.arithmetic L.arithmetic.unit (map L.means bs) ts) (sym point) (sym table) tabulated;
      weights_are = λ i l.
          let n = slot_count L.arithmetic (opening_in L c o made) in
          let there : point_in L c o made ≡ xs = same ∙ sym e in
          ap (λ ys. lent L.means ys i) weights ∙ of_part L.means 0 n w i l ∙ ap (lent L.means w) (zero-add i)
          ∙ weighed i (subst (λ ys. i < slot_count L.arithmetic (opening_at L o ys)) there l)
          ∙ ap (λ ys. weight_at L o ys (lent L.means t) α i) (sym there)
          ∙ ap (λ ts. weight_at L o (point_in L c o made) (lent L.means ts) α i) (sym table);
    }
