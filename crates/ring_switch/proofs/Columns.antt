-- Columns of the tensors of a table of bits, and weighted sums of them as sums over cells.
use Rattle.std.proofs.Common.{◌≡◌, ℕ, zero, suc, ◌+◌, ◌-◌, ◌*◌, ◌^◌, ◌<◌, ◌≤◌, Bool, true, false, not, length, sym, refl, ap, ◌∙◌, subst, ap₂, mod-eq_of_lt, arith, take-append-drop, pow-add}
use mathlib.Core.Path.{fun_ext}
use Rattle.level.specs.Element.{Element, width, coordinate}
use Rattle.level.specs.Laws.{Arithmetic, Laws}
use Rattle.level.proofs.Ring.{unit_times, zeros_times}
use Rattle.multilinear.specs.Sums.{sum, where_set, at_bit}
use Rattle.multilinear.specs.Equality.{Point, equality, multilinear}
use Rattle.multilinear.specs.Cells.{standing, packed}
use Rattle.multilinear.proofs.Sums.{sum_same, sum_exchange, sum_times, at_bit_times}
use Rattle.multilinear.proofs.Coordinates.{coordinate_gather, gather_sum, gather_at_bit}
use Rattle.multilinear.proofs.Entries.{entry_parts}
use Rattle.tensor_algebra.specs.Tensor.{exterior, column, by_columns}
use Rattle.ring_switch.specs.Opening.{Opening, variables, high, low}
use Rattle.ring_switch.specs.Claims.{tensor, carry, last}
use Rattle.multilinear.specs.Columns.{starts, ends}
use Rattle.ring_switch.specs.Slots.{packed_count}
use Rattle.ring_switch.specs.ClaimLaws.{Binary}
use Rattle.ring_switch.proofs.SlotPrefix.{low_length}
use Rattle.ring_switch.proofs.SlotTensors.{exterior_zeros}

module _ {k : ℕ} where
  -- column v of a sum of exterior products: the first legs whose second leg has coordinate v set
  pub column_sum : (n : ℕ) (e t : ℕ → Element k) (v : ℕ)
      → column (λ u. sum n (λ w. exterior (e w) (t w) u)) v ≡ sum n (λ w. at_bit (coordinate (t w) v) (e w))
  unfolding column exterior
  column_sum n e t v = gather_sum n v (λ w u. at_bit (coordinate (e w) u) (t w)) ∙ sum_same n _ _ (λ w h. gather_at_bit (e w) (t w) v)

  -- a test on an exterior product is a test on its first leg
  pub where_exterior : (b : Bool) (x y : Element k) (u : ℕ) → where_set b (exterior x y u) ≡ exterior (where_set b x) y u
  unfolding where_set
  where_exterior true x y u = refl
  where_exterior false x y u = sym (exterior_zeros y u)

-- a coordinate of a packed element is its cell
packed_cell : (k : ℕ) (bits : ℕ → ℕ) → Binary bits → (w v : ℕ) → v < width k → coordinate (packed k bits w) v ≡ bits (w * width k + v)
unfolding packed
packed_cell k bits binary w v h = coordinate_gather k (λ u. bits (w * width k + u)) v h ∙ mod-eq_of_lt (binary (w * width k + v))

module _ {k : ℕ} (bits : ℕ → ℕ) (binary : Binary bits) where
  pub tensor_column : (n : ℕ) (e : ℕ → Element k) (v : ℕ) → v < width k
      → column (tensor n e (packed k bits)) v ≡ sum n (λ w. at_bit (bits (w * width k + v)) (e w))
  unfolding tensor
  tensor_column n e v h = column_sum n e (packed k bits) v ∙ sum_same n _ _ (λ w l. ap (λ b. at_bit b (e w)) (packed_cell k bits binary w v h))

  tested_column : (n : ℕ) (b : ℕ → Bool) (e : ℕ → Element k) (v : ℕ) → v < width k
      → column (λ u. sum n (λ w. where_set (b w) (exterior (e w) (packed k bits w) u))) v
      ≡ sum n (λ w. at_bit (bits (w * width k + v)) (where_set (b w) (e w)))
  unfolding tensor
  tested_column n b e v h =
      ap (λ t. column t v) (fun_ext (λ u. sum_same n _ _ (λ w l. where_exterior (b w) (e w) (packed k bits w) u)))
      ∙ tensor_column n (λ w. where_set (b w) (e w)) v h

  pub carry_column : (r n : ℕ) (e : ℕ → Element k) (v : ℕ) → v < width k
      → column (carry r n e (packed k bits)) v ≡ sum n (λ w. at_bit (bits (w * width k + v)) (where_set (not (starts r w)) (e (w - 1))))
  unfolding carry
  carry_column r n e v h = tested_column n (λ w. not (starts r w)) (λ w. e (w - 1)) v h

  pub last_column : (r n : ℕ) (e : ℕ → Element k) (v : ℕ) → v < width k
      → column (last r n e (packed k bits)) v ≡ sum n (λ w. at_bit (bits (w * width k + v)) (where_set (ends r w) (e w)))
  unfolding last
  last_column r n e v h = tested_column n (ends r) e v h

-- the cells of a table, element by element
pub cell_count : {k : ℕ} (o : Opening k) → k ≤ length o.point → 2 ^ length o.point ≡ packed_count o * width k
cell_count {k} o h = let e : length o.point ≡ variables o + k = omega arith in ap (λ n. 2 ^ n) e ∙ pow-add 2 (variables o) k

module _ {k : ℕ} {A : Arithmetic k} (laws : Laws A) where
  -- the entry of a cell
  pub cell_entry : (o : Opening k) → k ≤ length o.point → (w v : ℕ) → v < width k
      → equality A o.point (w * width k + v) ≡ A.times (equality A (high o) w) (equality A (low o) v)
  cell_entry o h w v l =
      let e = sym (low_length o h) in
      ap₂ (equality A) (sym (take-append-drop (variables o) o.point)) (ap (λ i. w * 2 ^ i + v) e)
      ∙ entry_parts laws A.unit (high o) (low o) w v (subst (λ i. v < 2 ^ i) e l)

  -- a bit as an element, times another
  standing_times : (b : ℕ) (x : Element k) → A.times (standing A b) x ≡ at_bit b x
  unfolding standing at_bit
  standing_times zero x = zeros_times laws x
  standing_times (suc b) x = unit_times laws x

  pub multilinear_bits : (f : ℕ → ℕ) (p : Point k) → multilinear A (λ c. standing A (f c)) p ≡ sum (2 ^ length p) (λ c. at_bit (f c) (equality A p c))
  unfolding multilinear
  multilinear_bits f p = sum_same (2 ^ length p) _ _ (λ c h. standing_times (f c) (equality A p c))

  -- columns with weights, as a sum over packed elements and their coordinates
  pub weighed_columns : (bits : ℕ → ℕ) → Binary bits → (n : ℕ) (e f : ℕ → Element k)
      → by_columns A f (tensor n e (packed k bits)) ≡ sum n (λ w. sum (width k) (λ v. at_bit (bits (w * width k + v)) (A.times (e w) (f v))))
  unfolding by_columns
  weighed_columns bits binary n e f =
      sum_same (width k) _ _ (λ v h.
      ap (λ c. A.times c (f v)) (tensor_column bits binary n e v h) ∙ sum_times laws (f v) n _
      ∙ sum_same n _ _ (λ w l. at_bit_times laws (bits (w * width k + v)) (e w) (f v)))
      ∙ sum_exchange (width k) n _
