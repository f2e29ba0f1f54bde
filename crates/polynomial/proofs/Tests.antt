-- A test of every number below a bound, which antt computes.
use mathlib.Core.Path.{◌≡◌}
use mathlib.Core.Bool.{Bool, true, false}
use mathlib.Core.Logic.{inl, inr}
use Prim.Native.Nat.{ℕ, zero, suc, ◌<◌}
use native.Mathlib.Nat.{not-suc-le-zero, le_of_suc-le-suc, eq-or-lt_of_le}
use lib.Dec.{T, eqb, eqb→eq}

abbrev pub both : Bool → Bool → Bool
both true b = b
both false b = false

both_left : (a b : Bool) → T (both a b) → T a
both_left true b t = tt
both_left false b t = t

both_right : (a b : Bool) → T (both a b) → T b
both_right true b t = t
both_right false b t = absurd t

abbrev pub all_below : ℕ → (ℕ → Bool) → Bool
all_below zero p = true
all_below (suc n) p = both (p n) (all_below n p)

pub below : (n : ℕ) (p : ℕ → Bool) → T (all_below n p) → (i : ℕ) → i < n → T (p i)
below zero p t i h = absurd (not-suc-le-zero h)
below (suc n) p t i h =
    elim (eq-or-lt_of_le (le_of_suc-le-suc h)) [ inl e ↦ rw e (both_left (p n) (all_below n p) t) | inr l ↦ below n p (both_right (p n) (all_below n p) t) i l ]

-- functions that a test of all their values, pairs or triples of arguments finds equal
pub equal_below : (n : ℕ) (f g : ℕ → ℕ) → T (all_below n (λ i. eqb (f i) (g i))) → (i : ℕ) → i < n → f i ≡ g i
equal_below n f g t i h = eqb→eq (f i) (g i) (below n (λ i. eqb (f i) (g i)) t i h)

pub equal_pairs : (n : ℕ) (f g : ℕ → ℕ → ℕ) → T (all_below n (λ i. all_below n (λ j. eqb (f i j) (g i j)))) → (i : ℕ) → i < n → (j : ℕ) → j < n → f i j ≡ g i j
equal_pairs n f g t i h = equal_below n (f i) (g i) (below n (λ i. all_below n (λ j. eqb (f i j) (g i j))) t i h)

pub equal_triples : (n : ℕ) (f g : ℕ → ℕ → ℕ → ℕ) → T (all_below n (λ i. all_below n (λ j. all_below n (λ k. eqb (f i j k) (g i j k))))) → (i : ℕ) → i < n → (j : ℕ) → j < n → (k : ℕ) → k < n → f i j k ≡ g i j k
equal_triples n f g t i h = equal_pairs n (f i) (g i) (below n (λ i. all_below n (λ j. all_below n (λ k. eqb (f i j k) (g i j k)))) t i h)
