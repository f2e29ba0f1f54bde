-- The weights of columns in the successor claim, and what ripples out of an element.
use Rattle.std.proofs.Common.{◌≡◌, ℕ, ◌-◌, ◌^◌, ◌<◌, ◌≤◌, Bool, true, false, not, eqb, ltb, List, length, get_or, sym, ap, ◌∙◌, ap₂, lt_of_lt_of_le, mod-eq_of_lt, arith, pow_pos, pow_mono}
use lib.Pow.{pow-lt}
use Rattle.std.proofs.lemmas.Bool.Decides.{nat_tests}
use Rattle.level.specs.Element.{Element, width, plus, zeros}
use Rattle.level.specs.Laws.{Arithmetic, Laws}
use Rattle.level.proofs.Elements.{plus_zeros}
use Rattle.level.proofs.Ring.{times_zeros}
use Rattle.multilinear.specs.Lent.{lent}
use Rattle.multilinear.specs.Sums.{where_set}
use Rattle.multilinear.specs.Columns.{starts, ends}
use Rattle.multilinear.proofs.Lent.{lent_read}
use Rattle.multilinear.proofs.Coordinates.{coordinate_mod, coordinate_zeros, gather_coordinates}
use Rattle.tensor_algebra.specs.Tensor.{Tensor, column, nothing, by_columns}
use Rattle.ring_switch.specs.Claims.{inside, across, successor_claim}
use Rattle.ring_switch.proofs.Successor.{claim_inside, claim_across}
use Rattle.claims.proofs.Weighing.{by_columns_same}

-- a column's weight from what was read
pub row_weighed : {k : ℕ} (q : ℕ) (f : ℕ → Element k) (v : ℕ) (first last : Bool) (before own value : Element k) → before ≡ f (v - 1) → own ≡ f v
    → first ≡ starts q v → last ≡ ends q v
    → value ≡ plus (where_set (not first) before) (where_set last own) → value ≡ inside f q v
unfolding inside
row_weighed q f v first last before own value e₁ e₂ e₃ e₄ e = e ∙ simp (e₁, e₂, e₃, e₄)

pub not_longer : (k q : ℕ) → q ≤ k → ltb k q ≡ false
not_longer k q h = grind (arith, nat_tests)

pub longer : (k q : ℕ) → k < q → ltb k q ≡ true
longer k q h = grind (arith, nat_tests)

-- in rows longer than an element, of its bits only the first starts a row, and none ends one
starts_across : (k q v : ℕ) → k < q → v < width k → starts q v ≡ eqb v 0
starts_across k q v h l = ap (λ n. eqb n 0) (mod-eq_of_lt (lt_of_lt_of_le l (pow_mono (omega arith))))

ends_across : (k q v : ℕ) → k < q → v < width k → ends q v ≡ false
ends_across k q v h l =
    let longer : 2 ^ k < 2 ^ q = pow-lt h in
    ap (λ n. eqb n (2 ^ q - 1)) (mod-eq_of_lt (lt_of_lt_of_le l (pow_mono (omega arith)))) ∙ not_last longer
  where
    not_last : 2 ^ k < 2 ^ q → eqb v (2 ^ q - 1) ≡ false
    not_last longer = grind (arith, nat_tests)

module _ {k : ℕ} (A : Arithmetic k) (f : ℕ → Element k) where
  -- so all such rows have one weight for each column: that of the entry before, and none for the first bit
  weight_across : (q v : ℕ) → k < q → v < width k → inside f q v ≡ across f v
  unfolding inside across where_set
  weight_across q v g h =
      ap₂ (λ s e. plus (where_set (not s) (f (v - 1))) (where_set e (f v))) (starts_across k q v g h) (ends_across k q v g h) ∙ plus_zeros _

  -- the claim from its parts, where rows lie inside an element and where they are longer
  pub value_inside : (q rows : ℕ) (t c l : Tensor k) (r : Element k) → q ≤ k → rows ≡ q → r ≡ by_columns A (inside f rows) t
      → r ≡ successor_claim A f q t c l
  value_inside q rows t c l r h same e =
      e ∙ ap (λ p. by_columns A (inside f p) t) same ∙ sym (claim_inside A f q t c l (not_longer k q h))

  pub value_across : (q rows : ℕ) (t c l : Tensor k) (x y r : Element k) → k < q → k < rows → x ≡ by_columns A (inside f rows) t
      → y ≡ A.times (f (width k - 1)) (plus (column c 0) (column l (width k - 1))) → r ≡ plus x y → r ≡ successor_claim A f q t c l
  value_across q rows t c l x y r h long settled rippled made =
      made ∙ ap₂ plus (settled ∙ by_columns_same A _ _ t (λ v. weight_across rows v long)) rippled ∙ sym (claim_across A f q t c l (longer k q h))

-- what ripples out of an element, from what was read
pub rippled_made : {X : Type 0} {k : ℕ} (means : X → Element k) (A : Arithmetic k) (es : List X) (x : X) (y r : Element k) (c l c' l' : Tensor k)
    → length es ≡ width k → x ≡ get_or es (length es - 1) x → c ≡ c' → l ≡ l' → y ≡ plus (column c' 0) (column l' (length es - 1))
    → r ≡ A.times (means x) y → r ≡ A.times (lent means es (width k - 1)) (plus (column c 0) (column l (width k - 1)))
rippled_made {k = k} means A es x y r c l c' l' wide read carried lasting e made =
    let some : length es - 1 < length es = omega (arith, pow_pos k) in
    made ∙ ap₂ A.times (lent_read means es (length es - 1) x some read) (e ∙ sym (ap₂ (λ s t. plus (column s 0) (column t (length es - 1))) carried lasting))
    ∙ ap (λ n. A.times (lent means es (n - 1)) (plus (column c 0) (column l (n - 1)))) wide

-- zero tensors ripple nothing
column_nothing : {k : ℕ} (v : ℕ) → column (nothing {k = k}) v ≡ zeros k
unfolding column nothing
column_nothing {k} v = gather_coordinates (zeros k) _ (λ u _. coordinate_mod (zeros k) v ∙ coordinate_zeros k v ∙ sym (coordinate_zeros k u))

pub rippled_none : {k : ℕ} {A : Arithmetic k} → Laws A → (e r : Element k) (c l : Tensor k) (v : ℕ) → c ≡ nothing → l ≡ nothing → r ≡ zeros k
    → r ≡ A.times e (plus (column c 0) (column l v))
rippled_none {A = A} laws e r c l v carried lasting made =
    made ∙ sym (ap₂ (λ x y. A.times e (plus x y)) (ap (λ t. column t 0) carried ∙ column_nothing 0) (ap (λ t. column t v) lasting ∙ column_nothing v)
    ∙ ap (A.times e) (plus_zeros _) ∙ times_zeros laws e)
