-- A number with exactly one binary digit 1 is a power of two.
use Rattle.std.proofs.Common.{◌≡◌, ℕ, zero, suc, ◌+◌, ◌*◌, ◌/◌, ◌%◌, ◌^◌, ◌≤◌, ◌⊎◌, ap, ◌∙◌, inl, inr, pow-suc, arith, pow_pos}
use lib.Count.{ones, ones_in, ones_step, ones_cat}
use Rattle.std.proofs.lemmas.Nat.{zero_from_ones}
use Rattle.std.proofs.lemmas.Bool.{cases_eq, eqb-true, eq-eqb}
use Rattle.refusals.specs.Steps.{PowersOfTwo}

abbrev Power : ℕ → Type 0
Power n = (e : ℕ) × (n ≡ 2 ^ e)

-- the lowest digit is the one, or a digit of the half is
lowest : (n : ℕ) → ones n ≡ 1 → (ones (n / 2) ≡ 1 → Power (n / 2)) → (n % 2 ≡ 1) ⊎ (n % 2 ≡ 1 → ⊥) → Power n
lowest n e next (inl odd) =
    let s = ones_step n in
    let none : n / 2 ≡ 0 = zero_from_ones (n / 2) (omega arith) in
    (0, omega arith)
lowest n e next (inr even) =
    let s = ones_step n in
    let p = next (omega arith) in
    (suc p.0, omega (arith, p.1, pow-suc 2 p.0))

one_one : (d n : ℕ) → n ≤ d → ones n ≡ 1 → Power n
unfolding ones ones_in
one_one zero n h e =
    let none : n ≡ 0 = omega arith in
    let z : ones n ≡ 0 = ap ones none in
    absurd (omega arith)
one_one (suc d) n h e = lowest n e (λ f. one_one d (n / 2) (omega arith) f) (cases_eq (n % 2) 1)

power_ones : (e : ℕ) → ones (2 ^ e) ≡ 1
unfolding ones ones_in
power_ones e =
    let whole : 2 ^ e ≡ 1 * 2 ^ e + 0 = omega arith in
    ap ones whole ∙ ones_cat e 1 0 (pow_pos e)

pub powers_of_two : PowersOfTwo
powers_of_two n = (
  λ t. one_one n n (omega arith) (eqb-true (ones n) 1 t),
  λ p. eq-eqb (ones n) 1 (ap ones p.1 ∙ power_ones p.0),
)
