-- The rows of a byte from its buckets, halved bit by bit from the highest.
use Rattle.std.proofs.Common.{◌≡◌, ℕ, zero, suc, ◌+◌, ◌-◌, ◌*◌, ◌/◌, ◌%◌, ◌^◌, ◌<◌, ◌≤◌, sym, refl, ap, ◌∙◌, ap₂, ⊎_elim, pow-suc, arith, pow_mono}
use native.Mathlib.Nat.{div-eq_of_lt}
use lib.Arith.{digits_div, digits_mod}
use Rattle.std.proofs.lemmas.Bool.{cond_below, cond_above, cases_lt}
use Rattle.level.specs.Element.{Element, plus}
use Rattle.level.proofs.Elements.{zeros_plus}
use Rattle.level.proofs.Digits.{low_bit}
use Rattle.multilinear.specs.Sums.{sum, at_bit}
use Rattle.multilinear.proofs.Sums.{sum_same, sum_none, sum_plus, sum_append, at_bit_plus}
use Rattle.products.specs.Halves.{halvings, with_bit}

-- twice a power of two
twice : (m : ℕ) → 2 ^ suc m ≡ 2 ^ m + 2 ^ m
twice m = omega (arith, pow-suc 2 m)

-- half of 256 at most
pub at_most : (n : ℕ) → 2 ^ (7 - n) ≤ 128
at_most n = let l : 7 - n ≤ 7 = omega arith in pow_mono l

module _ {k : ℕ} where
  -- the sum of the first 2^m entries at whose place bit i is set
  over_bit : ℕ → ℕ → (ℕ → Element k) → Element k
  over_bit m i f = sum (2 ^ m) (λ s. at_bit (s / 2 ^ i % 2) (f s))

  in_halves : (m i : ℕ) (f : ℕ → Element k)
      → over_bit (suc m) i f ≡ plus (over_bit m i f) (sum (2 ^ m) (λ s. at_bit ((2 ^ m + s) / 2 ^ i % 2) (f (2 ^ m + s))))
  unfolding over_bit
  in_halves m i f = let t : ℕ → Element k = λ s. at_bit (s / 2 ^ i % 2) (f s) in ap (λ n. sum n t) (twice m) ∙ sum_append (2 ^ m) (2 ^ m) t

  -- at the highest bit: the upper half
  upper_half : (m : ℕ) (f : ℕ → Element k) → over_bit (suc m) m f ≡ sum (2 ^ m) (λ s. f (2 ^ m + s))
  unfolding over_bit at_bit
  upper_half m f =
      in_halves m m f
      ∙ ap₂ plus (sum_none (2 ^ m) _ (λ s h. ap (λ b. at_bit (b % 2) (f s)) (div-eq_of_lt h)))
      (sum_same (2 ^ m) _ _ (λ s h.
      let e : 2 ^ m + s ≡ 1 * 2 ^ m + s = omega arith in
      ap (λ b. at_bit (b % 2) (f (2 ^ m + s))) (ap (λ n. n / 2 ^ m) e ∙ digits_div 1 h)))
      ∙ zeros_plus _

  -- at a lower bit: the halves added
  lower_half : (m i : ℕ) (f g : ℕ → Element k) → i < m → ((s : ℕ) → s < 2 ^ m → g s ≡ plus (f s) (f (2 ^ m + s))) → over_bit (suc m) i f ≡ over_bit m i g
  unfolding over_bit
  lower_half m i f g l e =
      in_halves m i f
      ∙ ap (plus (over_bit m i f)) (sum_same (2 ^ m) _ _ (λ s h.
      let p : 2 ^ m + s ≡ 1 * 2 ^ m + s = omega arith in
      ap (λ b. at_bit b (f (2 ^ m + s))) (sym (low_bit (2 ^ m + s) m i l) ∙ ap (λ n. n / 2 ^ i % 2) (ap (λ n. n % 2 ^ m) p ∙ digits_mod 1 h))))
      ∙ sym (sum_plus (2 ^ m) (λ s. at_bit (s / 2 ^ i % 2) (f s)) (λ s. at_bit (s / 2 ^ i % 2) (f (2 ^ m + s))))
      ∙ sum_same (2 ^ m) _ _ (λ s h. sym (at_bit_plus (s / 2 ^ i % 2) (f s) (f (2 ^ m + s))) ∙ ap (at_bit (s / 2 ^ i % 2)) (sym (e s h)))

  -- the bits that are left after n halvings
  bits_left : (n i : ℕ) (f : ℕ → Element k) → n ≤ 8 → i < 8 - n → with_bit i f ≡ over_bit (8 - n) i (halvings n f)
  unfolding over_bit halvings
  bits_left zero i f h l = refl
  bits_left (suc n) i f h l =
      let m = 7 - n in
      let p : 8 - n ≡ suc m = omega arith in
      let q : m ≡ 8 - suc n = omega arith in
      bits_left n i f (omega arith) (omega arith) ∙ ap (λ a. over_bit a i (halvings n f)) p
      ∙ lower_half m i (halvings n f) (halvings (suc n) f) (omega arith) (λ s g. sym (cond_below s (2 ^ m) _ _ g))
      ∙ ap (λ a. over_bit a i (halvings (suc n) f)) q

  -- the row of the highest bit after n halvings
  pub highest_row : (n : ℕ) (f : ℕ → Element k) → n < 8 → with_bit (7 - n) f ≡ sum (2 ^ (7 - n)) (λ s. halvings n f (2 ^ (7 - n) + s))
  highest_row n f h =
      let p : 8 - n ≡ suc (7 - n) = omega arith in
      bits_left n (7 - n) f (omega arith) (omega arith) ∙ ap (λ a. over_bit a (7 - n) (halvings n f)) p ∙ upper_half (7 - n) (halvings n f)

  -- tables that agree stay alike
  pub halvings_same : (n : ℕ) (f g : ℕ → Element k) → n ≤ 8 → ((s : ℕ) → s < 256 → f s ≡ g s) → (s : ℕ) → s < 256 → halvings n f s ≡ halvings n g s
  unfolding halvings
  halvings_same zero f g h e s l = e s l
  halvings_same (suc n) f g h e s l =
      let half = 2 ^ (7 - n) in
      let rest = halvings_same n f g (omega arith) e in
      ⊎_elim
      (λ b. sym (cond_below s half _ _ b) ∙ ap₂ plus (rest s l) (rest (half + s) (omega (arith, at_most n))) ∙ cond_below s half _ _ b)
      (λ b. sym (cond_above s half (plus (halvings n f s) (halvings n f (half + s))) _ _ b refl) ∙ rest s l ∙ cond_above s half _ _ _ b refl)
      (cases_lt s half)
