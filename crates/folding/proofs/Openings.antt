-- The tensors of packed elements at an opening, from those of its slot table.
use Rattle.std.proofs.Common.{◌≡◌, ℕ, ◌+◌, ◌-◌, ◌*◌, ◌%◌, ◌^◌, ◌<◌, ◌≤◌, not, List, length, take, drop, sym, ap, ◌∙◌, ap₂, arith, length-append, take-append-drop, pow-add}
use mathlib.Core.Path.{fun_ext}
use Rattle.level.specs.declared.level.Level.{Ghosts}
use Rattle.level.specs.Element.{Element}
use Rattle.level.specs.Laws.{Arithmetic, Laws}
use Rattle.multilinear.specs.Columns.{starts, ends}
use Rattle.multilinear.specs.Equality.{Point, outer, inner, inner_count}
use Rattle.multilinear.specs.Lent.{lent}
use Rattle.multilinear.specs.Sums.{where_set}
use Rattle.multilinear.proofs.Places.{of_part}
use Rattle.multilinear.proofs.Sums.{sum_same}
use Rattle.tensor_algebra.specs.Tensor.{exterior}
use Rattle.equality.specs.Tables.{Factors}
use Rattle.equality.proofs.Factoring.{entries_are}
use Rattle.ring_switch.specs.Opening.{Opening, named, kept_rows, rest}
use Rattle.ring_switch.specs.Claims.{tensor, carry, last}
use Rattle.ring_switch.specs.Slots.{packed_count, slot_count, table, slot_table}
use Rattle.ring_switch.proofs.ColumnsBounds.{pow_mod}
use Rattle.ring_switch.proofs.SlotTensors.{slot, stepped_slot}
use Rattle.folding.specs.declared.slot_table.SlotTable.{SlotTable}
use Rattle.folding.specs.Slots.{values_of, table_of, slot_tensor, slot_carry, slot_last}
use Rattle.folding.specs.Openings.{Opens, SlotOpens}

-- how many entries the table of a point has that two slices hold in factors
pub size_is : {X : Type 0} {k : ℕ} (means : X → Element k) (A : Arithmetic k) (outers inners : List X) (s : Element k) (p : Point k)
    → Factors means A s p outers inners → 2 ^ length p ≡ length outers * length inners
size_is means A outers inners s p f =
    let parts : length p ≡ length (outer p) + length (inner p) =
    sym (ap length (take-append-drop (length p - inner_count (length p)) p)) ∙ length-append (outer p) (inner p) in
    ap (λ n. 2 ^ n) parts ∙ pow-add 2 (length (outer p)) (length (inner p)) ∙ sym (ap₂ (λ a b. a * b) f.outer_table.size f.inner_table.size)

-- tensors of as many entries and packed elements that agree
module _ {k : ℕ} (n : ℕ) (e d t s : ℕ → Element k) (entries : (i : ℕ) → i < n → e i ≡ d i) (elements : (i : ℕ) → i < n → t i ≡ s i) where
  pub tensor_same : (u : ℕ) → tensor n e t u ≡ tensor n d s u
  unfolding tensor
  tensor_same u = sum_same n _ _ (λ i h. ap₂ (λ x y. exterior x y u) (entries i h) (elements i h))

  pub carry_same : (r u : ℕ) → carry r n e t u ≡ carry r n d s u
  unfolding carry
  carry_same r u =
      sum_same n _ _ (λ i h. ap₂ (λ x y. where_set (not (starts r i)) (exterior x y u)) (entries (i - 1) (omega arith)) (elements i h))

  pub last_same : (r u : ℕ) → last r n e t u ≡ last r n d s u
  unfolding last
  last_same r u = sum_same n _ _ (λ i h. ap₂ (λ x y. where_set (ends r i) (exterior x y u)) (entries i h) (elements i h))

-- The slot of a lent packing, cut out of it.
pub cut_opens : {X : Type 0} (L : Ghosts X) → Laws L.arithmetic → (o : Opening L.log) (t : ℕ → Element L.log) (elements : List X) (start : ℕ) (s : SlotTable X L)
    → s.values.now ≡ take (length s.equality.outer.now * length s.equality.inner.now) (drop start elements)
    → Opens L.means L.arithmetic o t elements start s.equality.outer.now s.equality.inner.now → SlotOpens L s o t
cut_opens L laws o t elements start s cut opens =
    let n = length s.equality.outer.now * length s.equality.inner.now in
    let size = size_is L.means L.arithmetic s.equality.outer.now s.equality.inner.now _ (rest L.arithmetic o) opens.factors in
    let within = (slot laws o).within in
    record {
      values_are =
          λ i h.
          ap (λ xs. lent L.means xs i) cut ∙ of_part L.means start n elements i (omega arith)
          ∙ opens.elements_are (start + i) (omega (arith, opens.start_is)) ∙ ap (λ w. t (w + i)) opens.start_is;
      factors = opens.factors;
    }

-- The three tensors of a slot table of an opening are those of all packed elements.
module _ {X : Type 0} (L : Ghosts X) (laws : Laws L.arithmetic) (s : SlotTable X L) (o : Opening L.log) (t : ℕ → Element L.log) (opens : SlotOpens L s o t) where
  size : length s.values.now ≡ slot_count L.arithmetic o
  size = s.matched ∙ sym (size_is L.means L.arithmetic s.equality.outer.now s.equality.inner.now _ (rest L.arithmetic o) opens.factors)

  entries : (i : ℕ) → i < slot_count L.arithmetic o → table_of L s i ≡ slot_table L.arithmetic o i
  entries = entries_are L.means laws L.arithmetic.unit (rest L.arithmetic o) s.equality.outer.now s.equality.inner.now opens.factors

  pub tensor_opened : slot_tensor L s ≡ tensor (packed_count o) (table L.arithmetic o) t
  tensor_opened =
      fun_ext (λ u. ap (λ n. tensor n (table_of L s) (values_of L s) u) size ∙ tensor_same _ _ _ _ _ entries opens.values_are u
      ∙ sym ((slot laws o).whole_tensor t u))

  module _ (within : named o.view ≤ length o.point) where
    pub carry_opened : slot_carry L s (kept_rows o) ≡ carry (kept_rows o) (packed_count o) (table L.arithmetic o) t
    carry_opened =
        fun_ext (λ u. ap (λ n. carry (kept_rows o) n (table_of L s) (values_of L s) u) size ∙ carry_same _ _ _ _ _ entries opens.values_are (kept_rows o) u
        ∙ sym ((stepped_slot laws o within).whole_carry t u))

    pub last_opened : slot_last L s (kept_rows o) ≡ last (kept_rows o) (packed_count o) (table L.arithmetic o) t
    last_opened =
        fun_ext (λ u. ap (λ n. last (kept_rows o) n (table_of L s) (values_of L s) u) size ∙ last_same _ _ _ _ _ entries opens.values_are (kept_rows o) u
        ∙ sym ((stepped_slot laws o within).whole_last t u))

    -- and its columns are whole, as the last asks
    pub columns_whole : length s.values.now % 2 ^ kept_rows o ≡ 0
    columns_whole =
        ap (λ n. n % 2 ^ kept_rows o) size ∙ pow_mod (length (rest L.arithmetic o)) (kept_rows o) (stepped_slot laws o within).row_coordinates
