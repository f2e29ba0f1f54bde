-- The equality, successor and last elements, and equality factors, as sums of exterior products over the hypercube.
use Rattle.std.proofs.Common.{◌≡◌, ℕ, suc, ◌+◌, ◌-◌, ◌^◌, [], ◌∷◌, map, length, sym, refl, ap, ◌∙◌, ap₂, arith, pow_pos}
use native.Mathlib.Nat.{two-pow-succ}
use mathlib.Core.Path.{fun_ext}
use lib.Pow.{ones_lt, suc_ones}
use Rattle.level.specs.Element.{Element, plus}
use Rattle.level.specs.Laws.{Arithmetic, Laws}
use Rattle.level.proofs.Elements.{plus_assoc, plus_comm, plus_left_comm, plus_zeros, zeros_plus, plus_self}
use Rattle.level.proofs.Ring.{plus_times, unit_times, times_left_comm}
use Rattle.multilinear.specs.Sums.{sum}
use Rattle.multilinear.specs.Equality.{Point, entry, equality}
use Rattle.multilinear.proofs.Sums.{sum_same, sum_plus, sum_append}
use Rattle.tensor_algebra.specs.Tensor.{Tensor, exterior, add, one, nothing, scale_rows, scale_columns, equality_factor, product, equality_element, successor_element, equality_factors}
use Rattle.tensor_algebra.proofs.Columns.{plus_exterior, exterior_plus, scale_rows_add, scale_columns_add, scale_rows_exteriors, scale_columns_exteriors}
use Rattle.tensor_algebra.proofs.Tables.{entry_low, entry_high, entry_first, entry_last, sum_halves}

-- the sum of a(i) ⊗ b(i)
abbrev pub exteriors : {k : ℕ} → ℕ → (ℕ → Element k) → (ℕ → Element k) → Tensor k
exteriors n a b u = sum n (λ i. exterior (a i) (b i) u)

module _ {k : ℕ} {A : Arithmetic k} (laws : Laws A) where
  one_plus : (x a : Element k) → A.times (plus A.unit x) a ≡ plus a (A.times x a)
  one_plus x a = plus_times laws A.unit x a ∙ ap (λ y. plus y (A.times x a)) (unit_times laws a)

  cancel : (w x y z : Element k) → plus (plus w x) y ≡ plus (plus (plus w y) (plus x z)) z
  cancel w x y z =
      sym (plus_zeros (plus (plus w x) y)) ∙ ap (plus (plus (plus w x) y)) (sym (plus_self z))
      ∙ simp (plus_assoc, plus_left_comm)

  -- the equality factor of x and y on one exterior product: one plus x and one plus y on its legs, and x and y
  factor_term : (x y a b : Element k) (u : ℕ)
      → plus (plus (exterior a b u) (exterior (A.times x a) b u)) (exterior a (A.times y b) u)
      ≡ plus (exterior (A.times (plus A.unit x) a) (A.times (plus A.unit y) b) u) (exterior (A.times x a) (A.times y b) u)
  factor_term x y a b u =
      let xa = A.times x a in
      let yb = A.times y b in
      cancel (exterior a b u) (exterior xa b u) (exterior a yb u) (exterior xa yb u)
      ∙ ap (λ z. plus z (exterior xa yb u))
      (ap₂ plus (sym (exterior_plus a b yb u)) (sym (exterior_plus xa b yb u)) ∙ sym (plus_exterior a xa (plus b yb) u)
      ∙ ap₂ (λ s t. exterior s t u) (sym (one_plus x a)) (sym (one_plus y b)))

  pub factor_exteriors : (x y : Element k) (n : ℕ) (a b : ℕ → Element k)
      → equality_factor A x y (exteriors n a b)
      ≡ add (exteriors n (λ i. A.times (plus A.unit x) (a i)) (λ i. A.times (plus A.unit y) (b i)))
      (exteriors n (λ i. A.times x (a i)) (λ i. A.times y (b i)))
  unfolding equality_factor add
  factor_exteriors x y n a b =
      fun_ext (λ u.
      ap₂ (λ s t. plus (plus (exteriors n a b u) s) t) (scale_columns_exteriors laws x n a b u) (scale_rows_exteriors laws y n a b u)
      ∙ ap (λ s. plus s (exteriors n a (λ i. A.times y (b i)) u)) (sym (sum_plus n _ _)) ∙ sym (sum_plus n _ _)
      ∙ sum_same n _ _ (λ i _. factor_term x y (a i) (b i) u) ∙ sum_plus n _ _)

  pub factor_add : (x y : Element k) (t s : Tensor k) → equality_factor A x y (add t s) ≡ add (equality_factor A x y t) (equality_factor A x y s)
  unfolding equality_factor add
  factor_add x y t s =
      fun_ext (λ u.
      ap₂ (λ v w. plus (plus (plus (t u) (s u)) v) w) (scale_columns_add laws x t s u) (scale_rows_add laws y t s u)
      ∙ simp (plus_assoc, plus_left_comm))

  pub factors_add : (p q : Point k) (t s : Tensor k) → equality_factors A p q (add t s) ≡ add (equality_factors A p q t) (equality_factors A p q s)
  unfolding equality_factors
  factors_add [] q t s = refl
  factors_add (x ∷ p) [] t s = refl
  factors_add (x ∷ p) (y ∷ q) t s = ap (equality_factors A p q) (factor_add x y t s) ∙ factors_add p q (equality_factor A x y t) (equality_factor A x y s)

  -- one more coordinate on both legs
  regroup : (x y e f : Element k) (n : ℕ) (a b : ℕ → Element k) (u : ℕ)
      → exteriors n (λ i. A.times e (A.times x (a i))) (λ i. A.times f (A.times y (b i))) u
      ≡ exteriors n (λ i. A.times (A.times x e) (a i)) (λ i. A.times (A.times y f) (b i)) u
  regroup x y e f n a b u =
      sum_same n _ _ (λ i _. ap₂ (λ s t. exterior s t u)
      (times_left_comm laws e x (a i) ∙ sym (laws.times_assoc x e (a i))) (times_left_comm laws f y (b i) ∙ sym (laws.times_assoc y f (b i))))

  -- equality factors on a sum of exterior products: that sum at each index of the hypercube, its legs times the two tables' entries
  pub factors_exteriors : (p q : Point k) → length q ≡ length p → (n : ℕ) (a b : ℕ → Element k) (u : ℕ)
      → equality_factors A p q (exteriors n a b) u
      ≡ sum (2 ^ length p) (λ j. exteriors n (λ i. A.times (equality A p j) (a i)) (λ i. A.times (equality A q j) (b i)) u)
  unfolding equality_factors entry sum add
  factors_exteriors [] [] e n a b u =
      sym (zeros_plus _ ∙ sum_same n _ _ (λ i _. ap₂ (λ s t. exterior s t u) (unit_times laws (a i)) (unit_times laws (b i))))
  factors_exteriors [] (y ∷ q) e n a b u = absurd (omega arith)
  factors_exteriors (x ∷ p) [] e n a b u = absurd (omega arith)
  factors_exteriors (x ∷ p) (y ∷ q) e n a b u =
      let h : length q ≡ length p = omega arith in
      let x' = plus A.unit x in
      let y' = plus A.unit y in
      ap (λ t. equality_factors A p q t u) (factor_exteriors x y n a b) ∙ ap (λ t. t u) (factors_add p q _ _)
      ∙ ap₂ plus
      (factors_exteriors p q h n (λ i. A.times x' (a i)) (λ i. A.times y' (b i)) u
      ∙ sum_same (2 ^ length p) _ _ (λ j _. regroup x' y' (equality A p j) (equality A q j) n a b u))
      (factors_exteriors p q h n (λ i. A.times x (a i)) (λ i. A.times y (b i)) u
      ∙ sum_same (2 ^ length p) _ _ (λ j _. regroup x y (equality A p j) (equality A q j) n a b u))
      ∙ sym (sum_halves laws x y p q h (λ s t. exteriors n (λ i. A.times s (a i)) (λ i. A.times t (b i)) u))

  -- the equality element: the two tables' entries, index by index
  pub equality_exteriors : (p q : Point k) → length q ≡ length p
      → equality_element A p q ≡ exteriors (2 ^ length p) (equality A p) (equality A q)
  unfolding equality_element one entry sum add
  equality_exteriors [] [] e = fun_ext (λ u. sym (zeros_plus _))
  equality_exteriors [] (y ∷ q) e = absurd (omega arith)
  equality_exteriors (x ∷ p) [] e = absurd (omega arith)
  equality_exteriors (x ∷ p) (y ∷ q) e =
      let h : length q ≡ length p = omega arith in
      fun_ext (λ u.
      ap (λ t. scaled x y t u) (equality_exteriors p q h)
      ∙ ap₂ plus (both (plus A.unit x) (plus A.unit y) u) (both x y u)
      ∙ sym (sum_halves laws x y p q h (λ s t. exterior s t u)))
    where
      scaled : (x y : Element k) → Tensor k → Tensor k
      scaled x y t = add (scale_rows A (plus A.unit y) (scale_columns A (plus A.unit x) t)) (scale_rows A y (scale_columns A x t))

      n : ℕ
      n = 2 ^ length p

      both : (x y : Element k) (u : ℕ) → scale_rows A y (scale_columns A x (exteriors n (equality A p) (equality A q))) u
          ≡ exteriors n (λ i. A.times x (equality A p i)) (λ i. A.times y (equality A q i)) u
      both x y u =
          ap (λ t. scale_rows A y t u) (fun_ext (scale_columns_exteriors laws x n (equality A p) (equality A q)))
          ∙ scale_rows_exteriors laws y n (λ i. A.times x (equality A p i)) (equality A q) u

  plus_right_comm : (a b c : Element k) → plus (plus a b) c ≡ plus (plus a c) b
  plus_right_comm a b c = plus_assoc a b c ∙ ap (plus a) (plus_comm b c) ∙ sym (plus_assoc a c b)

  -- two stretches of 2^l - 1 terms, and the term between them
  sum_middle : (l : ℕ) (f : ℕ → Element k)
      → sum (2 ^ suc l - 1) f ≡ plus (plus (sum (2 ^ l - 1) f) (f (2 ^ l - 1))) (sum (2 ^ l - 1) (λ i. f (2 ^ l + i)))
  unfolding sum
  sum_middle l f =
      let e : 2 ^ suc l - 1 ≡ 2 ^ l + (2 ^ l - 1) = omega (arith, two-pow-succ l, pow_pos l) in
      ap (λ n. sum n f) e ∙ sum_append (2 ^ l) (2 ^ l - 1) f
      ∙ ap (λ n. plus (sum n f) (sum (2 ^ l - 1) (λ i. f (2 ^ l + i)))) (sym (suc_ones l))

  -- the successor element: each entry of the first table beside the next of the second
  pub successor_exteriors : (p q : Point k) → length q ≡ length p
      → successor_element A p q ≡ exteriors (2 ^ length p - 1) (equality A p) (λ i. equality A q (suc i))
  unfolding successor_element nothing sum add
  successor_exteriors [] [] e = refl
  successor_exteriors [] (y ∷ q) e = absurd (omega arith)
  successor_exteriors (x ∷ p) [] e = absurd (omega arith)
  successor_exteriors (x ∷ p) (y ∷ q) e =
      let h : length q ≡ length p = omega arith in
      fun_ext (λ u.
      ap (λ t. plus (equality_factor A x y t u) (settled u)) (successor_exteriors p q h)
      ∙ ap (λ t. plus (t u) (settled u)) (factor_exteriors x y m (equality A p) (λ i. equality A q (suc i)))
      ∙ plus_right_comm _ _ _
      ∙ ap₂ plus (ap₂ plus (sym (lows u h)) (sym (mid u h))) (sym (highs u h))
      ∙ sym (sum_middle (length p) (f u)))
    where
      m : ℕ
      m = 2 ^ length p - 1

      settled : Tensor k
      settled = exterior (A.times (product A p) (plus A.unit x)) (A.times (product A (map (plus A.unit) q)) y)

      f : ℕ → ℕ → Element k
      f u i = exterior (equality A (x ∷ p) i) (equality A (y ∷ q) (suc i)) u

      lows : (u : ℕ) → length q ≡ length p → sum m (f u)
          ≡ sum m (λ i. exterior (A.times (plus A.unit x) (equality A p i)) (A.times (plus A.unit y) (equality A q (suc i))) u)
      lows u h = sum_same m _ _ (λ i l. ap₂ (λ s t. exterior s t u) (entry_low laws x p i (omega arith)) (entry_low laws y q (suc i) (rw h (omega arith))))

      mid : (u : ℕ) → length q ≡ length p → f u m ≡ settled u
      mid u h =
          ap₂ (λ s t. exterior s t u)
          (entry_low laws x p m (ones_lt (length p)) ∙ ap (A.times (plus A.unit x)) (entry_last laws p) ∙ laws.times_comm _ _)
          (ap (equality A (y ∷ q)) (rw h (omega (arith, suc_ones (length p)))) ∙ entry_high laws y q 0 (pow_pos (length q)) ∙ ap (A.times y) (entry_first laws q) ∙ laws.times_comm _ _)

      highs : (u : ℕ) → length q ≡ length p → sum m (λ i. f u (2 ^ length p + i))
          ≡ sum m (λ i. exterior (A.times x (equality A p i)) (A.times y (equality A q (suc i))) u)
      highs u h = sum_same m _ _ (λ i l. ap₂ (λ s t. exterior s t u) (entry_high laws x p i (omega arith)) (ap (equality A (y ∷ q)) (rw h (omega arith)) ∙ entry_high laws y q (suc i) (rw h (omega arith))))
