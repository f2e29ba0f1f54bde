-- Equality tables by their halves, their first and their last entry, and sums over them.
use Rattle.std.proofs.Common.{◌≡◌, ℕ, suc, ◌+◌, ◌-◌, ◌*◌, ◌^◌, ◌<◌, [], ◌∷◌, map, length, sym, refl, ap, ◌∙◌, ap₂, one-mul, zero-mul, arith, pow_pos}
use native.Mathlib.Nat.{two-pow-succ}
use lib.Pow.{ones_lt}
use Rattle.level.specs.Element.{Element, plus}
use Rattle.level.specs.Laws.{Arithmetic, Laws}
use Rattle.multilinear.specs.Sums.{sum}
use Rattle.multilinear.specs.Equality.{Point, factor, entry, equality}
use Rattle.multilinear.proofs.Sums.{sum_same, sum_append}
use Rattle.multilinear.proofs.Entries.{entry_parts}
use Rattle.tensor_algebra.specs.Tensor.{product}

module _ {k : ℕ} {A : Arithmetic k} (laws : Laws A) where
  -- the half of the table where the first coordinate's bit is 0, and the half where it is 1
  pub entry_low : (x : Element k) (p : Point k) (i : ℕ) → i < 2 ^ length p
      → equality A (x ∷ p) i ≡ A.times (plus A.unit x) (equality A p i)
  unfolding entry factor
  entry_low x p i h =
      let e : 0 * 2 ^ length p + i ≡ i = omega (arith, zero-mul (2 ^ length p)) in
      ap (equality A (x ∷ p)) (sym e) ∙ entry_parts laws A.unit (x ∷ []) p 0 i h
      ∙ ap (λ y. A.times y (equality A p i)) (laws.times_unit (plus A.unit x))

  pub entry_high : (x : Element k) (p : Point k) (i : ℕ) → i < 2 ^ length p
      → equality A (x ∷ p) (2 ^ length p + i) ≡ A.times x (equality A p i)
  unfolding entry factor
  entry_high x p i h =
      let e : 1 * 2 ^ length p + i ≡ 2 ^ length p + i = omega (arith, one-mul (2 ^ length p)) in
      ap (equality A (x ∷ p)) (sym e) ∙ entry_parts laws A.unit (x ∷ []) p 1 i h
      ∙ ap (λ y. A.times y (equality A p i)) (laws.times_unit x)

  pub entry_first : (p : Point k) → equality A p 0 ≡ product A (map (plus A.unit) p)
  unfolding entry product
  entry_first [] = refl
  entry_first (x ∷ p) = entry_low x p 0 (pow_pos (length p)) ∙ ap (A.times (plus A.unit x)) (entry_first p)

  pub entry_last : (p : Point k) → equality A p (2 ^ length p - 1) ≡ product A p
  unfolding entry product
  entry_last [] = refl
  entry_last (x ∷ p) =
      let e : 2 ^ suc (length p) - 1 ≡ 2 ^ length p + (2 ^ length p - 1) = omega (arith, two-pow-succ (length p), pow_pos (length p)) in
      ap (equality A (x ∷ p)) e ∙ entry_high x p (2 ^ length p - 1) (ones_lt (length p)) ∙ ap (A.times x) (entry_last p)

  -- a sum over two tables, by halves
  pub sum_halves : (x y : Element k) (p q : Point k) → length q ≡ length p → (g : Element k → Element k → Element k)
      → sum (2 ^ suc (length p)) (λ i. g (equality A (x ∷ p) i) (equality A (y ∷ q) i))
      ≡ plus
      (sum (2 ^ length p) (λ i. g (A.times (plus A.unit x) (equality A p i)) (A.times (plus A.unit y) (equality A q i))))
      (sum (2 ^ length p) (λ i. g (A.times x (equality A p i)) (A.times y (equality A q i))))
  sum_halves x y p q e g =
      let n = 2 ^ length p in
      let f : ℕ → Element k = λ i. g (equality A (x ∷ p) i) (equality A (y ∷ q) i) in
      ap (λ m. sum m f) (two-pow-succ (length p)) ∙ sum_append n n f
      ∙ ap₂ plus
      (sum_same n _ _ (λ i h. ap₂ g (entry_low x p i h) (entry_low y q i (rw e h))))
      (sum_same n _ _ (λ i h. ap₂ g (entry_high x p i h) (ap (λ l. equality A (y ∷ q) (2 ^ l + i)) (sym e) ∙ entry_high y q i (rw e h))))
