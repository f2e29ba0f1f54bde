-- What tables of subset sums give for an element, a byte at a time.
use Rattle.std.proofs.Common.{◌≡◌, ℕ, ◌+◌, ◌*◌, ◌^◌, ◌≤◌, List, length, get_or, take, sym, ap, ◌∙◌, ap₂, add-one, arith, length-take-le, get_or-take, pow_mono}
use Rattle.level.specs.Element.{Element, plus, zeros}
use Rattle.level.specs.Laws.{Arithmetic, Laws}
use Rattle.level.specs.Bytes.{sixteen, num_bytes}
use Rattle.level.proofs.Digits.{length_digits, digit_at}
use Rattle.multilinear.specs.Sums.{sum}
use Rattle.multilinear.proofs.Sums.{sum_same}
use Rattle.tensor_algebra.specs.Tensor.{subset_sum}
use Rattle.tensor_algebra.specs.Subsets.{basis, byte}
use Rattle.tensor_algebra.proofs.SubsetSums.{subset_bytes, subset_times}
use Rattle.basis.specs.Tables.{Tabulated, looked_up, scaled_weights}
use Rattle.basis.proofs.CompletedTables.{byte_same}

module _ {k : ℕ} where
  -- tables of the sums of the weights f
  pub looked_up_sums : (f tables : ℕ → Element k) → Tabulated f tables → (x : Element k) → looked_up tables x ≡ subset_sum f x
  unfolding looked_up
  looked_up_sums f tables t x = sum_same (num_bytes k) _ _ (λ j h. t.entry j (byte x j) h (omega arith)) ∙ sym (subset_bytes f x)

  -- a loop that looks up the bytes one by one
  module _ (tables : ℕ → Element k) (bytes : List ℕ) where
    abbrev pub looked_below : ℕ → Element k
    looked_below n = sum n (λ j. tables (256 * j + get_or bytes j 0))

    pub looked_none : (s : Element k) → s ≡ zeros k → s ≡ looked_below 0
    unfolding sum
    looked_none s e = e

    pub looked_more : (n place : ℕ) (s x r : Element k) → s ≡ looked_below n → place ≡ 256 * n + get_or bytes n 0 → x ≡ tables place → r ≡ plus s x
        → r ≡ looked_below (n + 1)
    unfolding sum
    looked_more n place s x r e at read made = made ∙ ap₂ plus e (read ∙ ap tables at) ∙ ap looked_below (sym (add-one n))

    pub looked_all : (all : List ℕ) (x : Element k) (s : Element k) (m n : ℕ) → k ≤ 7 → m ≡ num_bytes k → all ≡ sixteen x → bytes ≡ take m all
        → n ≤ length bytes → length bytes ≤ n → s ≡ looked_below n → s ≡ looked_up tables x
    unfolding looked_up sixteen
    looked_all all x s m n narrow few shown front below above e =
        let w : 2 ^ k ≤ 128 = pow_mono narrow in
        let size = length-take-le m all (omega (arith, ap length shown, length_digits 16 x.number)) in
        let whole : n ≡ num_bytes k = omega (arith, ap length front, size) in
        e ∙ ap looked_below whole
        ∙ sum_same (num_bytes k) _ _ (λ j h.
        ap (λ b. tables (256 * j + b))
        (ap (λ bs. get_or bs j 0) front ∙ get_or-take m all j 0 (omega arith) ∙ ap (λ bs. get_or bs j 0) shown ∙ digit_at 16 x.number j (omega arith)))

  -- the weights f once the element is scaled by a: what they sum to at each scaled basis element
  abbrev pub scaled : Arithmetic k → (ℕ → Element k) → Element k → ℕ → Element k
  scaled A f a u = subset_sum f (A.times a (basis k u))

  -- tables made of what tables of the sums of f give for each scaled basis element: they hold the sums of f that are taken once the element is
  -- scaled
  module _ (A : Arithmetic k) (f sums tables : ℕ → Element k) (a : Element k) (held : Tabulated f sums) (made : Tabulated (scaled_weights A sums a) tables) where
    pub scaled_tabulated : Tabulated (scaled A f a) tables
    scaled_tabulated = record {
      entry = λ j r h l. made.entry j r h l ∙ byte_same _ (scaled A f a) j r (λ b _. looked_up_sums f sums held (A.times a (basis k (8 * j + b))));
    }

    pub scaled_subset_sum : Laws A → (x : Element k) → looked_up tables x ≡ subset_sum f (A.times a x)
    scaled_subset_sum laws x = looked_up_sums (scaled A f a) tables scaled_tabulated x ∙ sym (subset_times f laws a x)

    pub scaled_looked_up : Laws A → (x : Element k) → looked_up tables x ≡ looked_up sums (A.times a x)
    scaled_looked_up laws x = scaled_subset_sum laws x ∙ sym (looked_up_sums f sums held (A.times a x))
