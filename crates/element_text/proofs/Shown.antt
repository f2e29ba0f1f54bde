-- How many of an element's bytes its text shows.
use Rattle.std.proofs.Common.{◌≡◌, ℕ, zero, suc, ◌-◌, ◌^◌, ◌≤◌, min, refl, ap, arith, pow_mono}
use Rattle.level.specs.Element.{width}
use Rattle.level.specs.Bytes.{num_bytes}
use Rattle.element_text.specs.Hex.{shown_bytes}

-- a power of two: one byte up to eight coordinates, sixteen from 128 on
pub shown_power : (k : ℕ) → shown_bytes k ≡ 2 ^ (min k 7 - 3)
unfolding shown_bytes
shown_power zero = refl
shown_power (suc zero) = refl
shown_power (suc (suc zero)) = refl
shown_power (suc (suc (suc zero))) = refl
shown_power (suc (suc (suc (suc zero)))) = refl
shown_power (suc (suc (suc (suc (suc zero))))) = refl
shown_power (suc (suc (suc (suc (suc (suc zero)))))) = refl
shown_power (suc (suc (suc (suc (suc (suc (suc k))))))) =
    let n = suc (suc (suc (suc (suc (suc (suc k)))))) in
    let wide : 7 ≤ n = omega arith in
    let many : 2 ^ 7 ≤ width n = pow_mono wide in
    let same : min n 7 - 3 ≡ 4 = omega arith in
    omega (arith, many, ap (λ i. 2 ^ i) same)

-- all of them, where a level gives them all
pub shown_all : (k : ℕ) → k ≤ 7 → shown_bytes k ≡ num_bytes k
unfolding shown_bytes
shown_all k h = let narrow : 2 ^ k ≤ 2 ^ 7 = pow_mono h in omega arith
