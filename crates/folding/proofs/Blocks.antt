-- The tensors of a slot by blocks of an equality table that is held in two factors.
use Rattle.std.proofs.Common.{◌≡◌, ℕ, zero, suc, ◌+◌, ◌-◌, ◌*◌, ◌%◌, ◌^◌, ◌<◌, ◌≤◌, Bool, true, false, not, ◌&&◌, eqb, sym, refl, ap, ◌∙◌, ap₂, lt_of_lt_of_le, mod-eq_of_lt, arith, pow_pos, pow_mono}
use native.Mathlib.Decide.{dec_le}
use native.Mathlib.Nat.{zero-mod}
use Rattle.std.proofs.lemmas.Bool.Decides.{nat_tests}
use Rattle.std.proofs.lemmas.Nat.{mod-mul-add}
use Rattle.level.specs.Element.{Element, plus}
use Rattle.level.specs.Laws.{Arithmetic, Laws}
use Rattle.multilinear.specs.Sums.{sum, where_set}
use Rattle.level.proofs.Elements.{plus_zeros, zeros_plus}
use Rattle.level.proofs.Ring.{times_zeros}
use Rattle.multilinear.proofs.Sums.{sum_same, sum_rows, sum_plus, times_where}
use Rattle.multilinear.proofs.Windows.{sum_single}
use Rattle.tensor_algebra.specs.Tensor.{exterior, scale_columns}
use Rattle.tensor_algebra.proofs.BucketSums.{columns_are_scaled}
use Rattle.ring_switch.specs.Claims.{tensor, carry, last}
use Rattle.multilinear.specs.Columns.{starts, ends}
use Rattle.ring_switch.proofs.ColumnsBounds.{shift_mod, pow_multiple, starts_split}
use Rattle.ring_switch.proofs.Columns.{where_exterior}
use Rattle.ring_switch.proofs.SlotTensors.{exterior_zeros}
use Rattle.folding.specs.Folds.{shifted, block}

-- entry b·m + j is outer b times inner j
abbrev pub InFactors : {k : ℕ} → Arithmetic k → ℕ → ℕ → (ℕ → Element k) → (ℕ → Element k) → (ℕ → Element k) → Type 0
InFactors A n m e outer inner = (b j : ℕ) → b < n → j < m → e (b * m + j) ≡ A.times (outer b) (inner j)

nonzero : (j : ℕ) → 0 < j → eqb j 0 ≡ false
nonzero j h = grind (arith, nat_tests)

never : (c d : Bool) → d ≡ false → (c && d) ≡ false
never true d p = p
never false d p = refl

-- inside a block of 2^a entries an entry other than the first starts a column where its place in the block does
starts_inside : (r a b j : ℕ) → 0 < j → j < 2 ^ a → starts r (b * 2 ^ a + j) ≡ starts r j
starts_inside r a b j some inside = by (dec_le r a)
  where
    by : Dec (r ≤ a) → starts r (b * 2 ^ a + j) ≡ starts r j
    by (yes h) = ap (λ n. eqb n 0) (shift_mod (b * 2 ^ a) j (2 ^ r) (pow_multiple b a r h))
    by (no h) =
        let long : a ≤ r = omega arith in
        let e : r ≡ (r - a) + a = omega arith in
        let fits : j < 2 ^ r = lt_of_lt_of_le inside (pow_mono long) in
        ap (λ s. starts s (b * 2 ^ a + j)) e ∙ starts_split (r - a) a b j inside ∙ never (starts (r - a) b) (eqb j 0) (nonzero j some)
        ∙ sym (ap (λ n. eqb n 0) (mod-eq_of_lt fits) ∙ nonzero j some)

module _ {k : ℕ} {A : Arithmetic k} (laws : Laws A) where
  -- the tensor is the blocks' sums, each with its columns scaled by the outer weight
  pub tensor_blocks : (n m : ℕ) (e outer inner t : ℕ → Element k) → InFactors A n m e outer inner → (u : ℕ)
      → tensor (n * m) e t u ≡ sum n (λ b. scale_columns A (outer b) (block m inner t b) u)
  unfolding tensor block
  tensor_blocks n m e outer inner t f u =
      columns_are_scaled.of_tables laws n m e outer inner t f u

  -- a block's share of the carry: the first element of the block against the entry before the block, unless it starts a column,
  -- and the others against the shifted inner factor
  module _ (r a n : ℕ) (e outer inner t : ℕ → Element k) (f : InFactors A n (2 ^ a) e outer inner) (u b : ℕ) (hb : b < n) where
    term : ℕ → Element k
    term j = where_set (not (starts r (b * 2 ^ a + j))) (exterior (e (b * 2 ^ a + j - 1)) (t (b * 2 ^ a + j)) u)

    inner_term : ℕ → Element k
    inner_term j = exterior (A.times (outer b) (shifted r inner j)) (t (b * 2 ^ a + j)) u

    apart : (j : ℕ) → j < 2 ^ a → term j ≡ plus (where_set (eqb j 0) (term j)) (inner_term j)
    unfolding term inner_term where_set
    apart zero h =
        let z : 0 % 2 ^ r ≡ 0 = zero-mod (2 ^ r) in
        sym (ap (plus _) (ap (λ x. exterior x (t (b * 2 ^ a + 0)) u) (ap (λ c. A.times (outer b) (where_set (not (eqb c 0)) (inner (0 - 1)))) z ∙ times_zeros laws (outer b)) ∙ exterior_zeros (t (b * 2 ^ a + 0)) u) ∙ plus_zeros _)
    apart (suc j) h =
        let some : 0 < suc j = omega arith in
        let back : b * 2 ^ a + suc j - 1 ≡ b * 2 ^ a + j = omega arith in
        let here : suc j - 1 ≡ j = omega arith in
        ap₂ (λ c x. where_set (not c) (exterior x (t (b * 2 ^ a + suc j)) u)) (starts_inside r a b (suc j) some h) (ap e back ∙ f b j hb (omega arith))
        ∙ where_exterior (not (starts r (suc j))) (A.times (outer b) (inner j)) (t (b * 2 ^ a + suc j)) u
        ∙ ap (λ x. exterior x (t (b * 2 ^ a + suc j)) u) (sym (times_where laws (not (starts r (suc j))) (outer b) (inner j)) ∙ ap (λ i. A.times (outer b) (where_set (not (starts r (suc j))) (inner i))) (sym here))
        ∙ sym (zeros_plus _) ∙ ap (λ c. plus (where_set c (term (suc j))) (inner_term (suc j))) (sym (nonzero (suc j) some))

    carry_block : sum (2 ^ a) term ≡ plus (term 0) (scale_columns A (outer b) (block (2 ^ a) (shifted r inner) t b) u)
    unfolding inner_term block
    carry_block =
        sum_same (2 ^ a) term _ apart ∙ sum_plus (2 ^ a) (λ j. where_set (eqb j 0) (term j)) inner_term
        ∙ ap₂ plus (sum_single (2 ^ a) 0 (pow_pos a) term) (columns_are_scaled.of_blocks laws (outer b) (2 ^ a) (shifted r inner) (λ j. t (b * 2 ^ a + j)) u)

  pub carry_blocks : (r a n : ℕ) (e outer inner t : ℕ → Element k) → InFactors A n (2 ^ a) e outer inner → (u : ℕ)
      → carry r (n * 2 ^ a) e t u
      ≡ sum n (λ b. plus (where_set (not (starts r (b * 2 ^ a))) (exterior (e (b * 2 ^ a - 1)) (t (b * 2 ^ a)) u)) (scale_columns A (outer b) (block (2 ^ a) (shifted r inner) t b) u))
  unfolding carry term
  carry_blocks r a n e outer inner t f u =
      sum_rows n (2 ^ a) (λ w. where_set (not (starts r w)) (exterior (e (w - 1)) (t w) u))
      ∙ sum_same n _ _ (λ b hb.
      let z : b * 2 ^ a + 0 ≡ b * 2 ^ a = omega arith in
      carry_block r a n e outer inner t f u b hb
      ∙ ap (λ w. plus (where_set (not (starts r w)) (exterior (e (w - 1)) (t w) u)) (scale_columns A (outer b) (block (2 ^ a) (shifted r inner) t b) u)) z)

  -- the last is one term for each column
  pub last_columns : (r n : ℕ) (e t : ℕ → Element k) (u : ℕ)
      → last r (n * 2 ^ r) e t u ≡ sum n (λ c. exterior (e (c * 2 ^ r + (2 ^ r - 1))) (t (c * 2 ^ r + (2 ^ r - 1))) u)
  unfolding last
  last_columns r n e t u =
      sum_rows n (2 ^ r) (λ w. where_set (ends r w) (exterior (e w) (t w) u))
      ∙ sum_same n _ _ (λ c hc.
      sum_same (2 ^ r) _ _ (λ j hj.
      ap (λ i. where_set (eqb i (2 ^ r - 1)) (exterior (e (c * 2 ^ r + j)) (t (c * 2 ^ r + j)) u)) (mod-mul-add c (2 ^ r) j hj))
      ∙ sum_single (2 ^ r) (2 ^ r - 1) (omega (arith, pow_pos r)) (λ j. exterior (e (c * 2 ^ r + j)) (t (c * 2 ^ r + j)) u))
