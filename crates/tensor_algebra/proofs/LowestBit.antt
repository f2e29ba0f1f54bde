-- The lowest set bit of a number.
use Rattle.std.proofs.Common.{◌≡◌, ℕ, zero, suc, ◌+◌, ◌-◌, ◌*◌, ◌/◌, ◌%◌, ◌^◌, ◌<◌, refl, ap, ◌∙◌, ap₂, pow-suc, arith}
use lib.Bits.{bit_and, bit_xor, and_shr, and_mod, and_self, xor_step, xor_zero_r, differ}
use lib.Count.{count_trailing_zeros, under}

-- Without it a number is the number "and" its predecessor; "exclusive or" puts it back.
pub lowest_set : (w n : ℕ) → 0 < n → n < 2 ^ w → bit_xor (bit_and n (n - 1)) (2 ^ count_trailing_zeros w n) ≡ n
unfolding count_trailing_zeros
lowest_set zero n p h = absurd (omega arith)
lowest_set (suc w) n p h = go (n % 2) refl (λ q. lowest_set w (n / 2) q (omega (arith, pow-suc 2 w)))
  where
    rest : (e : ℕ) → (n - 1) / 2 ≡ e → bit_and n (n - 1) / 2 ≡ bit_and (n / 2) e
    rest e q = and_shr n (n - 1) 1 ∙ ap (bit_and (n / 2)) q

    even : (d e : ℕ) → n % 2 ≡ d → (n - 1) % 2 ≡ e → bit_and n (n - 1) % 2 ≡ bit_and d e
    even d e q r = and_mod n (n - 1) 1 ∙ ap₂ bit_and q r

    joined : (a b c : ℕ) → a % 2 ≡ 0 → b % 2 ≡ c → bit_xor a b ≡ bit_xor (a / 2) (b / 2) * 2 + differ 0 c
    joined a b c q r = xor_step a b ∙ ap₂ (λ i j. bit_xor (a / 2) (b / 2) * 2 + differ i j) q r

    go : (d : ℕ) → n % 2 ≡ d → (0 < n / 2 → bit_xor (bit_and (n / 2) (n / 2 - 1)) (2 ^ count_trailing_zeros w (n / 2)) ≡ n / 2)
        → bit_xor (bit_and n (n - 1)) (2 ^ under d (count_trailing_zeros w (n / 2))) ≡ n
    go zero q ih =
        let t = count_trailing_zeros w (n / 2) in
        joined (bit_and n (n - 1)) (2 ^ suc t) 0 (even 0 1 q (omega arith)) (omega (arith, pow-suc 2 t))
        ∙ ap₂ (λ a b. bit_xor a b * 2 + 0) (rest (n / 2 - 1) (omega arith)) (omega (arith, pow-suc 2 t))
        ∙ ap (λ m. m * 2 + 0) (ih (omega arith)) ∙ omega arith
    go (suc zero) q ih =
        joined (bit_and n (n - 1)) 1 1 (even 1 0 q (omega arith)) refl
        ∙ ap (λ a. bit_xor a 0 * 2 + 1) (rest (n / 2) (omega arith) ∙ and_self (n / 2))
        ∙ ap (λ m. m * 2 + 1) (xor_zero_r (n / 2)) ∙ omega arith
    go (suc (suc d)) q ih = absurd (omega arith)

-- it is one of the bits that the number has
pub lowest_below : (j w n : ℕ) → 0 < n → n < 2 ^ j → n < 2 ^ w → count_trailing_zeros w n < j
unfolding count_trailing_zeros
lowest_below j zero n p h l = absurd (omega arith)
lowest_below zero (suc w) n p h l = absurd (omega arith)
lowest_below (suc j) (suc w) n p h l =
    go (n % 2) refl (λ q. lowest_below j w (n / 2) q (omega (arith, pow-suc 2 j)) (omega (arith, pow-suc 2 w)))
  where
    go : (d : ℕ) → n % 2 ≡ d → (0 < n / 2 → count_trailing_zeros w (n / 2) < j) → under d (count_trailing_zeros w (n / 2)) < suc j
    go zero q ih = omega (arith, ih (omega arith))
    go (suc d) q ih = omega arith
