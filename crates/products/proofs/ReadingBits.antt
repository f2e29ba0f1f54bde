-- The rows of one byte that are being read out of its buckets, from the highest bit down.
use Rattle.std.proofs.Common.{◌≡◌, ℕ, suc, ◌+◌, ◌-◌, ◌^◌, ◌<◌, ◌≤◌, List, length, set, sym, refl, ap, ◌∙◌, ap₂, ⊎_elim, arith}
use Rattle.std.proofs.lemmas.Bool.{cases_lt, cond_below, cond_above}
use Rattle.level.specs.Element.{Element, plus}
use Rattle.multilinear.specs.Lent.{lent}
use Rattle.multilinear.specs.Sums.{sum}
use Rattle.multilinear.proofs.Lent.{lent_written, lent_kept}
use Rattle.multilinear.proofs.Sums.{sum_same}
use Rattle.products.specs.Halves.{Halved, halvings, with_bit}
use Rattle.products.proofs.RowsByHalves.{at_most, highest_row}

-- of a byte's `count` rows those of the bits from `left` on are read out, after as many halvings
pub record Reading {k : ℕ} (count left : ℕ) (before after rows_after : ℕ → Element k) : Type 0 where
  pub rows : (i : ℕ) → left ≤ i → i < count → rows_after i ≡ with_bit i before
  pub buckets : (s : ℕ) → s < 256 → after s ≡ halvings (8 - left) before s

module _ {k : ℕ} (n half : ℕ) (f after halved : ℕ → Element k) (h : n < 8) (size : half ≡ 2 ^ (7 - n)) (step : Halved half half after halved)
    (e : (s : ℕ) → s < 256 → after s ≡ halvings n f s) where
  -- an entry of the upper half
  upper : (s : ℕ) → s < half → after (half + s) ≡ halvings n f (half + s)
  upper s l = e (half + s) (omega (arith, at_most n))

  -- the entries after one halving more
  halved_once : (s : ℕ) → s < 256 → halved s ≡ halvings (suc n) f s
  unfolding halvings
  halved_once s l =
      ⊎_elim
      (λ g. step.lower s g ∙ ap₂ plus (e s l) (upper s g) ∙ ap (λ a. plus (halvings n f s) (halvings n f (a + s))) size
      ∙ cond_below s (2 ^ (7 - n)) _ _ (omega arith))
      (λ g. step.kept s g ∙ e s l ∙ cond_above s (2 ^ (7 - n)) _ _ _ (omega arith) refl)
      (cases_lt s half)

  -- the sum of the upper half
  row_is : sum half (λ s. after (half + s)) ≡ with_bit (7 - n) f
  row_is = sum_same half _ _ upper ∙ ap (λ a. sum a (λ s. halvings n f (a + s))) size ∙ sym (highest_row n f h)

module _ {k : ℕ} (before : ℕ → Element k) where
  pub reading_begins : (count : ℕ) (rows : ℕ → Element k) → count ≤ 8 → Reading count 8 before before rows
  unfolding halvings
  reading_begins count rows few = record { rows = λ i h l. absurd (omega arith); buckets = λ s h. refl }

  -- one bit more
  pub reading_more : {X : Type 0} (means : X → Element k) (count left half : ℕ) (after halved : ℕ → Element k) (ys : List X) (x : X)
      → 0 < left → left ≤ 8 → count ≤ length ys → half ≡ 2 ^ (left - 1) → Halved half half after halved
      → means x ≡ sum half (λ s. after (half + s))
      → Reading count left before after (lent means ys)
      → Reading count (left - 1) before halved (lent means (set ys (left - 1) x))
  reading_more means count left half after halved ys x pos l fits size step made w =
      let i = left - 1 in
      let n = 8 - left in
      let p : i ≡ 7 - n = omega arith in
      let q : suc n ≡ 8 - i = omega arith in
      let small : n < 8 = omega arith in
      let size' = size ∙ ap (λ m. 2 ^ m) p in
      record {
        rows = λ b g m.
            ⊎_elim
            (λ above. lent_kept means ys i b x (omega arith) ∙ w.rows b (omega arith) m)
            (λ below.
            let b-is : b ≡ i = omega arith in
            ap (lent means (set ys i x)) b-is ∙ lent_written means ys i x (omega arith) ∙ made
            ∙ row_is n half before after halved small size' step w.buckets ∙ ap (λ a. with_bit a before) (sym p ∙ sym b-is))
            (cases_lt i b);
        buckets = λ s g. halved_once n half before after halved small size' step w.buckets s g ∙ ap (λ a. halvings a before s) q;
      }
