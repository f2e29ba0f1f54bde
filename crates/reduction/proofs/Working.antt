-- What the steps of working leave, put together, and what stays of it below a start that is kept.
use Rattle.std.proofs.Common.{◌≡◌, ℕ, ◌+◌, ◌-◌, ◌^◌, ◌<◌, ◌≤◌, List, map, length, take, refl, sym, ap, ◌∙◌, subst, arith}
use mathlib.Core.Path.{fun_ext}
use lib.ListN.{length-map}
use Rattle.level.specs.Element.{width}
use Rattle.level.specs.Laws.{Laws}
use Rattle.level.specs.declared.level.Level.{Ghosts}
use Rattle.multilinear.specs.Lent.{lent}
use Rattle.ring_switch.specs.Opening.{Opening, named, variables, kept_rows, low, rest}
use Rattle.ring_switch.specs.Slots.{packed_count, table}
use Rattle.equality.specs.Tables.{Tabulated}
use Rattle.folding.proofs.Openings.{tensor_same, carry_same, last_same}
use Rattle.reduction.specs.Layout.{part, most, outer_start, tensor_start, carry_start, last_start, low_start, batching_start}
use Rattle.reduction.specs.Stretch.{Stands, opening_at, opening_in, rows_in}
use Rattle.reduction.specs.Worked.{SlotFactors, Worked, tensor_at, carry_at, last_at}
use Rattle.reduction.specs.declared.opened.Opened.{Opened}
use Rattle.reduction.proofs.Cut.{part_kept}
use Rattle.reduction.proofs.Fitting.{elements_fit}
use Rattle.reduction.proofs.Standing.{point_kept, stands_kept, lent_kept, variables_are}
use Rattle.reduction.proofs.Slotted.{factors_kept}

module _ {X : Type 0} (L : Ghosts X) (laws : Laws L.arithmetic) (c : ℕ) (o : Opened) where
  pub opening_kept : (b : ℕ) (xs ys : List X) → Stands L c o xs → outer_start L.log c ≤ b → take b xs ≡ take b ys → opening_in L c o xs ≡ opening_in L c o ys
  opening_kept b xs ys s h e = ap (opening_at L o) (point_kept L c o b xs ys s.within h e)

  -- packed elements of the table agree
  module _ (b : ℕ) (xs ys : List X) (s : Stands L c o xs) (h : outer_start L.log c ≤ b) (e : take b xs ≡ take b ys) where
    agree : (w : ℕ) → w < packed_count (opening_in L c o xs) → lent L.means xs w ≡ lent L.means ys w
    agree w l =
        lent_kept L c o b xs ys e w
        (omega (arith, l, h, elements_fit L.log c o.variables s.within, ap (λ n. 2 ^ n) (variables_are L c o xs s)))

    pub tensor_kept : tensor_at L.arithmetic (opening_in L c o xs) (lent L.means xs) ≡ tensor_at L.arithmetic (opening_in L c o ys) (lent L.means ys)
    tensor_kept =
        let p = opening_in L c o xs in
        fun_ext (λ u. tensor_same (packed_count p) (table L.arithmetic p) (table L.arithmetic p) (lent L.means xs) (lent L.means ys) (λ i _. refl) agree u)
        ∙ ap (λ q. tensor_at L.arithmetic q (lent L.means ys)) (opening_kept b xs ys s h e)

    pub carry_kept : carry_at L.arithmetic (opening_in L c o xs) (lent L.means xs) ≡ carry_at L.arithmetic (opening_in L c o ys) (lent L.means ys)
    carry_kept =
        let p = opening_in L c o xs in
        fun_ext (λ u. carry_same (packed_count p) (table L.arithmetic p) (table L.arithmetic p) (lent L.means xs) (lent L.means ys) (λ i _. refl) agree (kept_rows p) u)
        ∙ ap (λ q. carry_at L.arithmetic q (lent L.means ys)) (opening_kept b xs ys s h e)

    pub last_kept : last_at L.arithmetic (opening_in L c o xs) (lent L.means xs) ≡ last_at L.arithmetic (opening_in L c o ys) (lent L.means ys)
    last_kept =
        let p = opening_in L c o xs in
        fun_ext (λ u. last_same (packed_count p) (table L.arithmetic p) (table L.arithmetic p) (lent L.means xs) (lent L.means ys) (λ i _. refl) agree (kept_rows p) u)
        ∙ ap (λ q. last_at L.arithmetic q (lent L.means ys)) (opening_kept b xs ys s h e)

    -- the factors of the slot
    pub slot_kept : tensor_start L.log c ≤ b → SlotFactors L c (rest L.arithmetic (opening_in L c o xs)) xs → SlotFactors L c (rest L.arithmetic (opening_in L c o ys)) ys
    slot_kept g f =
        subst (λ q. SlotFactors L c (rest L.arithmetic q) ys) (opening_kept b xs ys s h e)
        (factors_kept L laws c (opening_in L c o xs) b xs ys (omega (arith, variables_are L c o xs s, s.within)) g e f)

    -- all that working leaves
    pub worked_kept : batching_start L.log c ≤ b → Worked L c o xs → Worked L c o ys
    worked_kept g w = record {
      factors = slot_kept (omega (arith, g)) w.factors;
      tensor_is = rows (tensor_start L.log c) (omega (arith, g)) ∙ w.tensor_is ∙ tensor_kept;
      carry_is = λ k. rows (carry_start L.log c) (omega (arith, g)) ∙ w.carry_is k ∙ carry_kept;
      last_is = λ k. rows (last_start L.log c) (omega (arith, g)) ∙ w.last_is k ∙ last_kept;
      low_is = subst (λ q. Tabulated L.means L.arithmetic L.arithmetic.unit (low q) (part (low_start L.log c) (width L.log) ys)) (opening_kept b xs ys s h e)
          (subst (Tabulated L.means L.arithmetic L.arithmetic.unit (low (opening_in L c o xs))) (part_kept (low_start L.log c) (width L.log) b xs ys e (omega (arith, g))) w.low_is);
    }
      where
        rows : (a : ℕ) → a + width L.log ≤ b → rows_in L a ys ≡ rows_in L a xs
        rows a l = ap (lent L.means) (sym (part_kept a (width L.log) b xs ys e l))

  -- the three steps of working
  module _ (m0 m1 m2 m3 : List X) (s : Stands L c o m0) (e1 : take (outer_start L.log c) m1 ≡ take (outer_start L.log c) m0)
      (e2 : take (carry_start L.log c) m2 ≡ take (carry_start L.log c) m1) (e3 : take (low_start L.log c) m3 ≡ take (low_start L.log c) m2) where
    pub stands_after : Stands L c o m1
    stands_after = stands_kept L c o (outer_start L.log c) m0 m1 (omega arith) (sym e1) s

    pub stands_later : Stands L c o m2
    stands_later = stands_kept L c o (carry_start L.log c) m1 m2 (omega arith) (sym e2) stands_after

    pub worked : SlotFactors L c (rest L.arithmetic (opening_in L c o m0)) m1
        → rows_in L (tensor_start L.log c) m1 ≡ tensor_at L.arithmetic (opening_in L c o m0) (lent L.means m0)
        → (L.log < named o.view → rows_in L (carry_start L.log c) m2 ≡ carry_at L.arithmetic (opening_in L c o m1) (lent L.means m1))
        → (L.log < named o.view → rows_in L (last_start L.log c) m2 ≡ last_at L.arithmetic (opening_in L c o m1) (lent L.means m1))
        → Tabulated L.means L.arithmetic L.arithmetic.unit (low (opening_in L c o m2)) (part (low_start L.log c) (width L.log) m3)
        → Worked L c o m3
    worked factors tensor carry last lows =
        let k = L.log in
        let d = width k in
        let C = carry_start k c in
        let s1 = stands_after in
        let s2 = stands_later in
        let f1 = subst (λ q. SlotFactors L c (rest L.arithmetic q) m1) (opening_kept (outer_start k c) m0 m1 s (omega arith) (sym e1)) factors in
        record {
          factors = slot_kept (low_start k c) m2 m3 s2 (omega arith) (sym e3) (omega arith) (slot_kept C m1 m2 s1 (omega arith) (sym e2) (omega arith) f1);
          tensor_is = ap (lent L.means) (part_kept (tensor_start k c) d (low_start k c) m3 m2 e3 (omega arith) ∙ part_kept (tensor_start k c) d C m2 m1 e2 (omega arith))
              ∙ tensor ∙ tensor_kept (outer_start k c) m0 m1 s (omega arith) (sym e1) ∙ tensor_kept C m1 m2 s1 (omega arith) (sym e2) ∙ tensor_kept (low_start k c) m2 m3 s2 (omega arith) (sym e3);
          carry_is = λ h. ap (lent L.means) (part_kept C d (low_start k c) m3 m2 e3 (omega arith))
              ∙ carry h ∙ carry_kept C m1 m2 s1 (omega arith) (sym e2) ∙ carry_kept (low_start k c) m2 m3 s2 (omega arith) (sym e3);
          last_is = λ h. ap (lent L.means) (part_kept (last_start k c) d (low_start k c) m3 m2 e3 (omega arith))
              ∙ last h ∙ last_kept C m1 m2 s1 (omega arith) (sym e2) ∙ last_kept (low_start k c) m2 m3 s2 (omega arith) (sym e3);
          low_is = subst (λ q. Tabulated L.means L.arithmetic L.arithmetic.unit (low q) (part (low_start k c) d m3)) (opening_kept (low_start k c) m2 m3 s2 (omega arith) (sym e3)) lows;
        }
