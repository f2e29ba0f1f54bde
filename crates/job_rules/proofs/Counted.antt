-- Bytes that can be packed have cells of a log that an element's is within.
use Rattle.std.proofs.Common.{◌≡◌, ℕ, zero, suc, ◌+◌, ◌-◌, ◌*◌, ◌/◌, ◌%◌, ◌^◌, ◌<◌, ◌≤◌, Bool, true, false, cond, not, ltb, ◌⊎◌, Some, None, Option, sym, refl, ap, ◌∙◌, ap₂, inl, inr, mul_assoc, pow-suc, arith, pow_pos, pow_mono}
use lib.Count.{count_trailing_zeros, under}
use lib.Pow.{pow-lt}
use Rattle.std.proofs.lemmas.Nat.{pow-add, shl-shr}
use Rattle.std.proofs.lemmas.Bool.{ltb-false, not-false, cases_lt}
use Rattle.level.specs.Bytes.{num_bytes}
use Rattle.refusals.specs.Steps.{told, packing, power_of_two}
use Rattle.refusals.proofs.Powers.{powers_of_two}
use Rattle.job_rules.specs.Ledger.{cells_log, CellsAreCounted}

passed : {R : Type 0} (test : Bool) (r : R) (o : Option R) → None ≡ cond test (Some r) o → (test ≡ false) × (None ≡ o)
passed true r o e = let z : ◌≡◌ {A = ℕ} 0 1 = cc in absurd (omega arith)
passed false r o e = (refl, e)

log_le : (a b : ℕ) → 2 ^ a < 2 * 2 ^ b → a ≤ b
log_le a b h = below (cases_lt b a)
  where
    below : (b < a) ⊎ (a ≤ b) → a ≤ b
    below (inl l) = let more : 1 + b ≤ a = omega arith in absurd (omega (arith, pow_mono more, pow-add 2 1 b))
    below (inr l) = l

trailing_power : (w v : ℕ) → v < w → count_trailing_zeros w (2 ^ v) ≡ v
unfolding count_trailing_zeros
trailing_power zero v h = absurd (omega arith)
trailing_power (suc w) zero h = refl
trailing_power (suc w) (suc v) h =
    let even : 2 ^ suc v % 2 ≡ 0 = omega (arith, pow-suc 2 v) in
    let half : 2 ^ suc v / 2 ≡ 2 ^ v = omega (arith, pow-suc 2 v) in
    ap₂ under even (ap (count_trailing_zeros w) half ∙ trailing_power w v (omega arith))

-- as many as a power of two has digits are enough to find its one
log_under : (e : ℕ) → e < 2 ^ e
log_under zero = omega arith
log_under (suc e) = omega (arith, log_under e, pow-suc 2 e)

pub cells_counted : CellsAreCounted
cells_counted e = omega (arith, trailing_power (2 ^ e) e (log_under e))

-- n bytes are packed at log width k into 2^log elements
record Powered (k n : ℕ) : Type 0 where
  wide : 3 ≤ k
  narrow : k ≤ 7
  log : ℕ
  cells : 8 * n ≡ 2 ^ (log + k)
  bytes : n ≡ 2 ^ log * num_bytes k
  count : n / num_bytes k ≡ 2 ^ log

powered : (k n : ℕ) → None ≡ packing (told k) n → Powered k n
powered k n e =
    let a = passed (ltb 7 (told k)) _ _ e in
    let b = passed (ltb (2 ^ told k) 8) _ _ a.1 in
    let c = passed (not (power_of_two (8 * n))) _ _ b.1 in
    let d = passed (ltb n (num_bytes (told k))) _ _ c.1 in
    let narrow : k ≤ 7 = omega (arith, ltb-false 7 (told k) a.0) in
    let same : told k ≡ k = omega arith in
    let wide : 3 ≤ k = at_least_byte (cases_lt k 3) (omega (arith, ltb-false (2 ^ told k) 8 b.0, ap (λ i. 2 ^ i) same)) in
    let p = (powers_of_two (8 * n)).0 (not-false _ c.0) in
    let log = p.0 in
    let split : 2 ^ k ≡ 2 ^ (k - 3) * 8 = let s : k ≡ (k - 3) + 3 = omega arith in ap (λ i. 2 ^ i) s ∙ pow-add 2 (k - 3) 3 in
    let st : num_bytes k ≡ 2 ^ (k - 3) = omega (arith, pow_pos (k - 3)) in
    let full : num_bytes k ≤ n = omega (arith, ltb-false n (num_bytes (told k)) d.0, ap num_bytes same) in
    let enough : k ≤ log = log_le k log (omega (arith, full, st, p.1, split, pow_pos log)) in
    let cells : 8 * n ≡ 2 ^ (log - k) * 2 ^ (k - 3) * 8 =
    let s : log ≡ (log - k) + ((k - 3) + 3) = omega arith in
    p.1 ∙ ap (λ i. 2 ^ i) s ∙ pow-add 2 (log - k) ((k - 3) + 3) ∙ ap (λ m. 2 ^ (log - k) * m) (pow-add 2 (k - 3) 3) ∙ sym (mul_assoc (2 ^ (log - k)) (2 ^ (k - 3)) 8) in
    let w : n ≡ 2 ^ (log - k) * 2 ^ (k - 3) = omega arith in
    let back : log ≡ (log - k) + k = omega arith in
    record {
      wide = wide;
      narrow = narrow;
      log = log - k;
      cells = p.1 ∙ ap (λ i. 2 ^ i) back;
      bytes = w ∙ ap (λ y. 2 ^ (log - k) * y) (sym st);
      count = ap₂ (λ x y. x / y) w st ∙ shl-shr (2 ^ (log - k)) (k - 3);
    }
  where
    at_least_byte : (k < 3) ⊎ (3 ≤ k) → 8 ≤ 2 ^ k → 3 ≤ k
    at_least_byte (inl l) h = absurd (omega (arith, pow-lt l))
    at_least_byte (inr l) h = l

-- bytes that can be packed fill an element, and their cells are counted
pub record Packable (k n : ℕ) : Type 0 where
  pub wide : 3 ≤ k
  pub narrow : k ≤ 7
  pub filled : k ≤ cells_log n
  pub cells : 8 * n ≡ 2 ^ cells_log n

pub packable : (k n : ℕ) → None ≡ packing (told k) n → Packable k n
packable k n e =
    let p = powered k n e in
    let m = p.log + k - 3 in
    let s : p.log + k ≡ m + 3 = omega (arith, p.wide) in
    let power : n ≡ 2 ^ m = omega (arith, p.cells, ap (λ i. 2 ^ i) s, pow-add 2 m 3) in
    let counted : cells_log n ≡ m + 3 = ap cells_log power ∙ cells_counted m in
    record {
      wide = p.wide;
      narrow = p.narrow;
      filled = omega (arith, counted, p.wide);
      cells = p.cells ∙ ap (λ i. 2 ^ i) s ∙ ap (λ i. 2 ^ i) (sym counted);
    }
