-- The slot of an opening, from the factors of its equality table at the front of two slices.
use Rattle.std.proofs.Common.{◌≡◌, ℕ, ◌+◌, ◌-◌, ◌*◌, ◌^◌, ◌≤◌, List, map, ◌++◌, length, take, drop, sym, ap, ◌∙◌, refl, subst, subst₂, arith, length-drop, pow_mono}
use lib.ListN.{length-map}
use Rattle.std.proofs.lemmas.List.{take-take}
use Rattle.level.specs.Element.{Element}
use Rattle.level.specs.Laws.{Arithmetic, Laws}
use Rattle.level.specs.declared.level.Level.{Ghosts}
use Rattle.multilinear.specs.Equality.{inner, inner_count}
use Rattle.multilinear.specs.Lent.{lent}
use Rattle.ring_switch.specs.Opening.{Opening, variables, rest, slot_start}
use Rattle.ring_switch.specs.Slots.{packed_count}
use Rattle.ring_switch.proofs.SlotTensors.{slot}
use Rattle.equality.specs.Tables.{Factors}
use Rattle.folding.specs.declared.slot_table.SlotTable.{SlotTable}
use Rattle.folding.specs.Openings.{SlotOpens}
use Rattle.folding.proofs.Openings.{size_is, cut_opens}
use Rattle.opening.specs.declared.bit_ring_switch.BitRingSwitch.{BitRingSwitch}
use Rattle.opening.specs.Openings.{opening_of}
use Rattle.reduction.specs.Layout.{part, most, outer_start, inner_start, tensor_start, outer_entries, inner_entries}
use Rattle.reduction.specs.Stretch.{opening_at}
use Rattle.reduction.specs.Worked.{BeginFactors, SlotFactors}
use Rattle.reduction.specs.declared.opened.Opened.{Opened}
use Rattle.reduction.proofs.Cut.{first, second, part_kept}
use Rattle.reduction.proofs.Fitting.{outer_fits, inner_fits}

-- the opening that was made at a point with these numbers
pub made_at : {X : Type 0} (L : Ghosts X) (s : BitRingSwitch X L) (o : Opened) (xs : List X) → s.point.now ≡ xs → s.view ≡ o.view → opening_of L s ≡ opening_at L o xs
made_at L s o xs e v =
    ap (λ (ys : List _). let p : Opening L.log = record { point = map L.means ys; view = s.view } in p) e
    ∙ ap (λ w. let p : Opening L.log = record { point = map L.means xs; view = w } in p) v

module _ {X : Type 0} (L : Ghosts X) (laws : Laws L.arithmetic) (o : Opening L.log) (outers inners rs : List X) (a b : ℕ)
    (rest_is : map L.means rs ≡ rest L.arithmetic o) (begins : BeginFactors L.means L.arithmetic (rest L.arithmetic o) outers inners)
    (ea : a ≡ outer_entries (length rs)) (eb : b ≡ inner_entries (length rs)) where
  len : length rs ≡ length (rest L.arithmetic o)
  len = sym (length-map rs L.means) ∙ ap length rest_is

  -- the factors, as slices of so many entries
  pub slot_factors : Factors L.means L.arithmetic L.arithmetic.unit (rest L.arithmetic o) (take a outers) (take b inners)
  slot_factors =
      subst₂ (λ n m. Factors L.means L.arithmetic L.arithmetic.unit (rest L.arithmetic o) (take n outers) (take m inners))
      (sym (ea ∙ ap outer_entries len)) (sym (eb ∙ ap inner_entries len)) begins

  pub slot_size : 2 ^ length (rest L.arithmetic o) ≡ length (take a outers) * length (take b inners)
  slot_size = size_is L.means L.arithmetic (take a outers) (take b inners) L.arithmetic.unit (rest L.arithmetic o) slot_factors

  -- the slot lies in the packed table
  pub slot_within : (n start : ℕ) → start ≡ slot_start L.arithmetic o → n ≡ packed_count o → start + length (take a outers) * length (take b inners) ≤ n
  slot_within n start begins size = omega (arith, slot_size, (slot laws o).within, begins, size)

  -- and is cut out of it
  pub slot_opens : (packed : List X) (start : ℕ) (s : SlotTable X L) → start ≡ slot_start L.arithmetic o
      → s.equality.outer.now ≡ take a outers → s.equality.inner.now ≡ take b inners
      → s.values.now ≡ take (length (take a outers) * length (take b inners)) (drop start packed) → SlotOpens L s o (lent L.means packed)
  slot_opens packed start s begins eo ei cut =
      cut_opens L laws o (lent L.means packed) packed start s
      (cut ∙ ap (λ n. take (n * length (take b inners)) (drop start packed)) (sym (ap length eo)) ∙ ap (λ n. take (length s.equality.outer.now * n) (drop start packed)) (sym (ap length ei)))
      (record {
        elements_are = λ w h. refl;
        start_is = begins;
        factors = subst₂ (λ xs ys. Factors L.means L.arithmetic L.arithmetic.unit (rest L.arithmetic o) xs ys) (sym eo) (sym ei) slot_factors;
      })

-- the inner factor has no more entries than there are packed elements
pub inner_short : {X : Type 0} (L : Ghosts X) → Laws L.arithmetic → (s : SlotTable X L) (o : Opening L.log) (t : ℕ → Element L.log) → SlotOpens L s o t
    → length s.equality.inner.now ≤ packed_count o
inner_short L laws s o t opens =
    let r = rest L.arithmetic o in
    let e : length (inner r) ≤ variables o = omega (arith, length-drop (length r - inner_count (length r)) r, (slot laws o).coordinates) in
    let p : 2 ^ length (inner r) ≤ 2 ^ variables o = pow_mono e in
    omega (arith, p, opens.factors.inner_table.size)

-- the factors stand at their places of a stretch that is put together
pub factors_stand : {X : Type 0} (L : Ghosts X) → Laws L.arithmetic → (c : ℕ) (o : Opening L.log) (h os is t : List X) → variables o ≤ c - L.log
    → length h ≡ outer_start L.log c → length os ≡ most L.log c → length is ≡ most L.log c
    → BeginFactors L.means L.arithmetic (rest L.arithmetic o) os is → SlotFactors L c (rest L.arithmetic o) (h ++ (os ++ (is ++ t)))
factors_stand L laws c o h os is t within eh eo ei factors =
    let r = rest L.arithmetic o in
    let l : length r ≤ c - L.log = omega (arith, within, (slot laws o).coordinates) in
    subst₂ (λ xs ys. Factors L.means L.arithmetic L.arithmetic.unit r xs ys)
    (sym (first (outer_start L.log c) (outer_entries (length r)) h eh os (is ++ t) (omega (arith, outer_fits L.log c (length r) l, eo))))
    (sym (second (outer_start L.log c) (most L.log c) (inner_entries (length r)) h os is t eh eo (omega (arith, inner_fits L.log c (length r) l, ei)))) factors

-- and the other way round, at the front of what was read there
pub factors_begin : {X : Type 0} (L : Ghosts X) → Laws L.arithmetic → (c : ℕ) (o : Opening L.log) (memory os is : List X) → variables o ≤ c - L.log
    → os ≡ part (outer_start L.log c) (most L.log c) memory → is ≡ part (inner_start L.log c) (most L.log c) memory
    → SlotFactors L c (rest L.arithmetic o) memory → BeginFactors L.means L.arithmetic (rest L.arithmetic o) os is
factors_begin L laws c o memory os is within eo ei factors =
    let r = rest L.arithmetic o in
    let l : length r ≤ c - L.log = omega (arith, within, (slot laws o).coordinates) in
    subst₂ (λ xs ys. Factors L.means L.arithmetic L.arithmetic.unit r xs ys)
    (sym (ap (take (outer_entries (length r))) eo ∙ take-take (outer_entries (length r)) (most L.log c) (drop (outer_start L.log c) memory) (outer_fits L.log c (length r) l)))
    (sym (ap (take (inner_entries (length r))) ei ∙ take-take (inner_entries (length r)) (most L.log c) (drop (inner_start L.log c) memory) (inner_fits L.log c (length r) l))) factors

-- factors that stand below a start that is kept stand there still
pub factors_kept : {X : Type 0} (L : Ghosts X) → Laws L.arithmetic → (c : ℕ) (o : Opening L.log) (b : ℕ) (xs ys : List X) → variables o ≤ c - L.log
    → tensor_start L.log c ≤ b → take b xs ≡ take b ys → SlotFactors L c (rest L.arithmetic o) xs → SlotFactors L c (rest L.arithmetic o) ys
factors_kept L laws c o b xs ys within h e factors =
    let r = rest L.arithmetic o in
    let l : length r ≤ c - L.log = omega (arith, within, (slot laws o).coordinates) in
    subst₂ (λ os is. Factors L.means L.arithmetic L.arithmetic.unit r os is)
    (part_kept (outer_start L.log c) (outer_entries (length r)) b xs ys e (omega (arith, outer_fits L.log c (length r) l, h)))
    (part_kept (inner_start L.log c) (inner_entries (length r)) b xs ys e (omega (arith, inner_fits L.log c (length r) l, h))) factors
