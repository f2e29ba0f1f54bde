-- Sums whose terms are zero but in a window, and terms under a test.
use Rattle.std.proofs.Common.{◌≡◌, ℕ, ◌+◌, ◌-◌, ◌<◌, ◌≤◌, Bool, true, false, not, ◌&&◌, eqb, ◌⊎◌, sym, refl, ap, ◌∙◌, ap₂, inl, inr, ⊎_elim, add-zero, arith}
use Rattle.std.proofs.lemmas.Bool.{eq-eqb, ne_eqb}
use Rattle.level.specs.Element.{Element, plus, zeros}
use Rattle.level.proofs.Elements.{plus_zeros, zeros_plus}
use Rattle.multilinear.specs.Sums.{sum, where_set, at_bit}
use Rattle.multilinear.proofs.Sums.{sum_append, sum_none, at_bit_zeros}

module _ {k : ℕ} where
  -- the terms of a window alone, where the others are zero
  pub sum_window : (n s l : ℕ) (f : ℕ → Element k) → s + l ≤ n → ((w : ℕ) → w < n → (w < s) ⊎ (s + l ≤ w) → f w ≡ zeros k)
      → sum n f ≡ sum l (λ i. f (s + i))
  sum_window n s l f h out =
      let m = n - (s + l) in
      let e : n ≡ s + l + m = omega arith in
      let before = sum_none s f (λ w g. out w (omega arith) (inl g)) in
      let after = sum_none m (λ i. f (s + l + i)) (λ i g. out (s + l + i) (omega arith) (inr (omega arith))) in
      ap (λ i. sum i f) e ∙ sum_append (s + l) m f ∙ ap₂ plus (sum_append s l f ∙ ap (λ x. plus x (sum l (λ i. f (s + i)))) before) after
      ∙ plus_zeros _ ∙ zeros_plus _

  -- one term alone
  pub sum_single : (n a : ℕ) → a < n → (f : ℕ → Element k) → sum n (λ i. where_set (eqb i a) (f i)) ≡ f a
  unfolding sum where_set
  sum_single n a h f =
      let e : a + 0 ≡ a = add-zero a in
      let t : eqb a a ≡ true = eq-eqb a a refl in
      sum_window n a 1 (λ i. where_set (eqb i a) (f i)) (omega arith) (λ w _ out.
      ap (λ b. where_set b (f w)) (ne_eqb w a (λ g. ⊎_elim (λ l. omega arith) (λ l. omega arith) out)))
      ∙ zeros_plus _ ∙ ap (λ i. where_set (eqb i a) (f i)) e ∙ ap (λ b. where_set b (f a)) t

  -- a term matters only where its test holds
  pub where_same : (b : Bool) (x y : Element k) → (b ≡ true → x ≡ y) → where_set b x ≡ where_set b y
  unfolding where_set
  where_same true x y e = e refl
  where_same false x y e = refl

  pub where_none : (b : Bool) (x : Element k) → (b ≡ true → x ≡ zeros k) → where_set b x ≡ zeros k
  unfolding where_set
  where_none true x e = e refl
  where_none false x e = refl

  -- under both tests, and under not both: not under the second, or under it and not under the first
  pub where_and : (a b : Bool) (x : Element k) → where_set (a && b) x ≡ where_set b (where_set a x)
  unfolding where_set
  where_and true true x = refl
  where_and true false x = refl
  where_and false true x = refl
  where_and false false x = refl

  pub where_not_and : (a b : Bool) (x : Element k)
      → where_set (not (a && b)) x ≡ plus (where_set (not b) x) (where_set b (where_set (not a) x))
  unfolding where_set
  where_not_and true true x = sym (plus_zeros (zeros k))
  where_not_and true false x = sym (plus_zeros x)
  where_not_and false true x = sym (zeros_plus x)
  where_not_and false false x = sym (plus_zeros x)

  -- a term at a bit and under a test
  pub at_bit_where : (n : ℕ) (b : Bool) (x : Element k) → at_bit n (where_set b x) ≡ where_set b (at_bit n x)
  unfolding where_set
  at_bit_where n true x = refl
  at_bit_where n false x = at_bit_zeros n
