-- Buckets of which the upper half is being added into the lower.
use Rattle.std.proofs.Common.{◌≡◌, ℕ, ◌+◌, ◌-◌, ◌<◌, ◌≤◌, List, ◌++◌, length, get_or, set, sym, refl, ap, ◌∙◌, ap₂, add-one, arith, below_more}
use Rattle.std.proofs.lemmas.List.{get_or-map}
use Rattle.level.specs.Element.{Element, plus, zeros}
use Rattle.multilinear.specs.Lent.{lent}
use Rattle.multilinear.specs.Sums.{sum}
use Rattle.multilinear.proofs.Lent.{lent_read, lent_written, lent_kept, lent_front, lent_back}
use Rattle.multilinear.proofs.Sums.{sum_same}
use Rattle.products.specs.Halves.{Halved}

-- the first `done` places of the lower half have those of the upper added, and `total` is the sum of what was added
pub record Halving {k : ℕ} (done : ℕ) (upper lower_before lower : ℕ → Element k) (total : Element k) : Type 0 where
  pub added : (s : ℕ) → s < done → lower s ≡ plus (lower_before s) (upper s)
  pub kept : (s : ℕ) → done ≤ s → lower s ≡ lower_before s
  pub summed : total ≡ sum done upper

module _ {X : Type 0} {k : ℕ} (means : X → Element k) where
  pub halving_begins : (upper lower : ℕ → Element k) (total : Element k) → total ≡ zeros k → Halving 0 upper lower lower total
  unfolding sum
  halving_begins upper lower total e = record { added = λ s h. absurd (omega arith); kept = λ s h. refl; summed = e }

  -- one place more
  pub halving_more : (done : ℕ) (lower_before : ℕ → Element k) (uppers lowers : List X) (t y x : X) (total more : Element k)
      → done < length uppers → done < length lowers → t ≡ get_or uppers done t
      → means x ≡ plus (means (get_or lowers done y)) (means t) → more ≡ plus total (means t)
      → Halving done (lent means uppers) lower_before (lent means lowers) total
      → Halving (done + 1) (lent means uppers) lower_before (lent means (set lowers done x)) more
  unfolding sum
  halving_more done lower_before uppers lowers t y x total more h l read made step w =
      let above = lent_read means uppers done t h read in
      let below : means (get_or lowers done y) ≡ lower_before done = sym (get_or-map means lowers done y (zeros k) l) ∙ w.kept done (omega arith) in
      record {
        added = below_more _ done (λ s g. lent_kept means lowers done s x (omega arith) ∙ w.added s g)
            (lent_written means lowers done x l ∙ made ∙ ap₂ plus below above);
        kept = λ s g. lent_kept means lowers done s x (omega arith) ∙ w.kept s (omega arith);
        summed = step ∙ ap₂ plus w.summed above ∙ ap (λ n. sum n (lent means uppers)) (sym (add-one done));
      }

  -- all places
  module _ (half done : ℕ) (before lowers_before uppers lowers : List X) (total : Element k) (parts : before ≡ lowers_before ++ uppers)
      (size_before : length lowers_before ≡ half) (size : length lowers ≡ half) (all : done ≡ half)
      (w : Halving done (lent means uppers) (lent means lowers_before) (lent means lowers) total) where
    upper_is : (i : ℕ) → half ≤ i → lent means uppers (i - half) ≡ lent means before i
    upper_is i h = sym (ap (λ xs. lent means xs i) parts ∙ lent_back means lowers_before uppers half i size_before h)

    pub halving_sum : total ≡ sum half (λ s. lent means before (half + s))
    halving_sum =
        w.summed ∙ ap (λ n. sum n (lent means uppers)) all
        ∙ sum_same half _ _ (λ s h.
        let place : half + s - half ≡ s = omega arith in
        ap (lent means uppers) (sym place) ∙ upper_is (half + s) (omega arith))

    pub halving_ends : Halved half half (lent means before) (lent means (lowers ++ uppers))
    halving_ends = record {
      lower = λ s h.
          let place : half + s - half ≡ s = omega arith in
          lent_front means lowers uppers s (omega arith) ∙ w.added s (omega arith)
          ∙ ap₂ plus (sym (ap (λ xs. lent means xs s) parts ∙ lent_front means lowers_before uppers s (omega arith)))
          (ap (lent means uppers) (sym place) ∙ upper_is (half + s) (omega arith));
      kept = λ i h. lent_back means lowers uppers half i size h ∙ upper_is i h;
    }
