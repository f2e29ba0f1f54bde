-- The tensors of a slot whose equality table is held in two factors, from what the folds over blocks and columns leave.
use Rattle.std.proofs.Common.{◌≡◌, ℕ, zero, suc, ◌+◌, ◌-◌, ◌*◌, ◌^◌, ◌<◌, true, false, not, List, length, sym, ap, ◌∙◌, subst, zero-mul, arith}
use mathlib.Core.Path.{fun_ext}
use Rattle.level.specs.Element.{Element, plus}
use Rattle.level.specs.Laws.{Arithmetic, Laws}
use Rattle.level.proofs.Elements.{plus_zeros, plus_comm}
use Rattle.multilinear.specs.Columns.{starts}
use Rattle.multilinear.specs.Lent.{lent}
use Rattle.multilinear.specs.Sums.{sum, where_set}
use Rattle.multilinear.proofs.Sums.{sum_same, sum_plus}
use Rattle.equality.specs.Tables.{entries_of}
use Rattle.equality.proofs.Factoring.{entry_in_block}
use Rattle.tensor_algebra.specs.Tensor.{Tensor, nothing, exterior, add, scale_columns}
use Rattle.ring_switch.proofs.ColumnsBounds.{starts_not}
use Rattle.ring_switch.specs.Claims.{tensor, carry, last}
use Rattle.folding.specs.Folds.{shifted, block, with_all, entering}
use Rattle.folding.proofs.Blocks.{InFactors, tensor_blocks, carry_blocks, last_columns}
use Rattle.folding.proofs.Folds.{all_from_nothing}

module _ {X : Type 0} {k : ℕ} (means : X → Element k) {A : Arithmetic k} (laws : Laws A) (outers inners : List X) where
  in_factors : InFactors A (length outers) (length inners) (entries_of means A outers inners) (lent means outers) (lent means inners)
  in_factors b j hb hj = entry_in_block means A outers inners b j hj

  -- the tensor from its blocks
  pub tensor_made : (n : ℕ) (t r : Tensor k) (lefts : List X) (values : ℕ → Element k) → n ≡ length outers * length inners → t ≡ nothing → lefts ≡ inners
      → r ≡ with_all t (λ b. scale_columns A (lent means outers b) (block (length inners) (lent means lefts) values b)) (length outers)
      → r ≡ tensor n (entries_of means A outers inners) values
  tensor_made n t r lefts values size none shared made =
      let e = entries_of means A outers inners in
      made ∙ ap (λ xs. with_all t (λ b. scale_columns A (lent means outers b) (block (length inners) (lent means xs) values b)) (length outers)) shared
      ∙ fun_ext (λ u. all_from_nothing t _ (length outers) u none
      ∙ sym (tensor_blocks laws (length outers) (length inners) e (lent means outers) (lent means inners) values in_factors u)
      ∙ ap (λ i. tensor i e values u) (sym size))

  -- what the shifted factors hold, block by block
  shifted_same : (r : ℕ) (shifts : List X) (values : ℕ → Element k) (b u : ℕ)
      → ((j : ℕ) → j < length inners → lent means shifts j ≡ shifted r (lent means inners) j)
      → block (length inners) (lent means shifts) values b u ≡ block (length inners) (shifted r (lent means inners)) values b u
  unfolding block
  shifted_same r shifts values b u h = sum_same (length inners) _ _ (λ j l. ap (λ x. exterior x (values (b * length inners + j)) u) (h j l))

  -- the carry from its blocks, of 2^a entries each, and from what enters them
  pub carry_made : (r a n : ℕ) (t v w : Tensor k) (shifts lefts : List X) (values : ℕ → Element k) → length inners ≡ 2 ^ a → n ≡ length outers * length inners
      → t ≡ nothing → ((j : ℕ) → j < length inners → lent means shifts j ≡ shifted r (lent means inners) j)
      → lefts ≡ shifts → v ≡ with_all t (λ b. scale_columns A (lent means outers b) (block (length inners) (lent means lefts) values b)) (length outers)
      → w ≡ with_all v (entering r (length inners) (entries_of means A outers inners) values) (length outers)
      → w ≡ carry r n (entries_of means A outers inners) values
  unfolding with_all entering
  carry_made r a n t v w shifts lefts values long size none shift shared blocks enters =
      let m = length inners in
      let o = length outers in
      let e = entries_of means A outers inners in
      let scaled : ℕ → Tensor k = λ b. scale_columns A (lent means outers b) (block m (shifted r (lent means inners)) values b) in
      let whole : (u : ℕ) → v u ≡ sum o (λ b. scaled b u) =
      λ u. ap (λ x. x u) (blocks ∙ ap (λ xs. with_all t (λ b. scale_columns A (lent means outers b) (block m (lent means xs) values b)) o) shared)
      ∙ all_from_nothing t (λ b. scale_columns A (lent means outers b) (block m (lent means shifts) values b)) o u none
      ∙ sum_same o _ _ (λ b h. ap (λ x. scale_columns A (lent means outers b) x u) (fun_ext (λ i. shifted_same r shifts values b i shift))) in
      enters ∙ fun_ext (λ u. ap (λ x. plus x (sum o (λ b. entering r m e values b u))) (whole u)
      ∙ plus_comm _ _ ∙ sym (sum_plus o (λ b. entering r m e values b u) (λ b. scaled b u))
      ∙ subst (λ i. sum o (λ b. plus (where_set (not (starts r (b * i))) (exterior (e (b * i - 1)) (values (b * i)) u)) (scale_columns A (lent means outers b) (block i (shifted r (lent means inners)) values b) u)) ≡ carry r (o * i) e values u)
      (sym long) (sym (carry_blocks laws r a o e (lent means outers) (lent means inners) values (subst (λ i. InFactors A o i e (lent means outers) (lent means inners)) long in_factors) u))
      ∙ ap (λ i. carry r i e values u) (sym size))

-- the last from its columns
pub last_made : {k : ℕ} {A : Arithmetic k} → Laws A → (r c n : ℕ) (t v : Tensor k) (e values : ℕ → Element k) → t ≡ nothing → n ≡ c * 2 ^ r
    → v ≡ with_all t (λ i. exterior (e (i * 2 ^ r + (2 ^ r - 1))) (values (i * 2 ^ r + (2 ^ r - 1)))) c → v ≡ last r n e values
last_made laws r c n t v e values none columns made =
    made ∙ fun_ext (λ u. all_from_nothing t _ c u none ∙ sym (last_columns laws r c e values u) ∙ ap (λ i. last r i e values u) (sym columns))

-- what enters a block whose first element starts a column: nothing
pub none_enters : {k : ℕ} (r m : ℕ) (e values : ℕ → Element k) (b : ℕ) (t : Tensor k) → starts r (b * m) ≡ true → t ≡ add t (entering r m e values b)
unfolding entering add where_set
none_enters r m e values b t h = fun_ext (λ u. sym (ap (λ c. plus (t u) (where_set (not c) (exterior (e (b * m - 1)) (values (b * m)) u))) h ∙ plus_zeros (t u)))

-- and one whose first element starts none: that element beside the entry before it
pub first_enters : {k : ℕ} (r m : ℕ) (e values : ℕ → Element k) (b : ℕ) (t v : Tensor k) → starts r (b * m) ≡ false
    → v ≡ add t (exterior (e (b * m - 1)) (values (b * m))) → v ≡ add t (entering r m e values b)
unfolding entering add where_set
first_enters r m e values b t v h made =
    made ∙ fun_ext (λ u. ap (λ c. plus (t u) (where_set (not c) (exterior (e (b * m - 1)) (values (b * m)) u))) (sym h))

-- a block whose first element starts no column is not the first
pub later_block : (r m b : ℕ) → starts r (b * m) ≡ false → 0 < b
later_block r m zero h = omega (arith, starts_not r (0 * m) h, zero-mul m)
later_block r m (suc b) h = omega arith
