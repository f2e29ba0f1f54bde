-- Bytes that can be packed are a power of two of elements.
use Rattle.std.proofs.Common.{◌≡◌, ℕ, zero, suc, ◌+◌, ◌-◌, ◌*◌, ◌/◌, ◌%◌, ◌^◌, ◌<◌, ◌≤◌, min, not, ltb, ◌⊎◌, None, sym, refl, ap, ◌∙◌, ap₂, inl, inr, le_trans, mul_assoc, mul-le-mul_left, pow-suc, mul-one, arith, lit≤, pow_pos, pow_mono}
use lib.Count.{count_trailing_zeros, under}
use lib.Pow.{pow-lt}
use Rattle.std.proofs.lemmas.Nat.{pow-add, mul-le}
use Rattle.std.proofs.lemmas.Bool.{ltb-false, not-false, cases_lt}
use Rattle.element_text.specs.Hex.{shown_bytes}
use Rattle.element_text.proofs.Shown.{shown_power}
use Rattle.std.proofs.Math.Nat.{mul-div_cancel}
use Rattle.refusals.specs.Steps.{told, packing, power_of_two}
use Rattle.level.specs.Bytes.{num_bytes}
use Rattle.refusals.proofs.Powers.{powers_of_two}
use Rattle.report_lines.specs.Packing.{Packs}
use Rattle.report_lines.specs.Report.{variables_of}
use Rattle.report_lines.proofs.Passed.{passed}

-- a larger power has a larger exponent
log_le : (a b : ℕ) → 2 ^ a < 2 * 2 ^ b → a ≤ b
log_le a b h = below (cases_lt b a)
  where
    below : (b < a) ⊎ (a ≤ b) → a ≤ b
    below (inl l) = let more : 1 + b ≤ a = omega arith in absurd (omega (arith, pow_mono more, pow-add 2 1 b))
    below (inr l) = l

-- an element is shown by a byte at least
pub some_shown : (k : ℕ) → 0 < shown_bytes k
unfolding shown_bytes
some_shown k = omega arith

-- n bytes are 2^e cells, at least those of one element
pub record Cells (k n : ℕ) : Type 0 where
  pub narrow : k ≤ 7
  pub wide : 3 ≤ k
  pub log : ℕ
  pub cells : 8 * n ≡ 2 ^ log
  pub enough : k ≤ log

pub packable : (k n : ℕ) → None ≡ packing (told k) n → Cells k n
packable k n e =
    let a = passed (ltb 7 (told k)) _ _ e in
    let b = passed (ltb (2 ^ told k) 8) _ _ a.1 in
    let c = passed (not (power_of_two (8 * n))) _ _ b.1 in
    let d = passed (ltb n (num_bytes (told k))) _ _ c.1 in
    let narrow : k ≤ 7 = omega (arith, ltb-false 7 (told k) a.0) in
    let same : told k ≡ k = omega arith in
    let wide : 3 ≤ k = at_least_byte (cases_lt k 3) (omega (arith, ltb-false (2 ^ told k) 8 b.0, ap (λ i. 2 ^ i) same)) in
    let p = (powers_of_two (8 * n)).0 (not-false _ c.0) in
    let split : 2 ^ k ≡ 2 ^ (k - 3) * 8 = let s : k ≡ (k - 3) + 3 = omega arith in ap (λ i. 2 ^ i) s ∙ pow-add 2 (k - 3) 3 in
    let full : num_bytes (told k) ≤ n = ltb-false n (num_bytes (told k)) d.0 in
    record {
      narrow = narrow;
      wide = wide;
      log = p.0;
      cells = p.1;
      enough = log_le k p.0 (omega (arith, full, ap num_bytes same, p.1, split, pow_pos p.0));
    }
  where
    at_least_byte : (k < 3) ⊎ (3 ≤ k) → 8 ≤ 2 ^ k → 3 ≤ k
    at_least_byte (inl l) h = absurd (omega (arith, pow-lt l))
    at_least_byte (inr l) h = l

module _ (k n : ℕ) (c : Cells k n) where
  -- how many packed elements there are
  pub count : ℕ
  count = 2 ^ (c.log - k)

  pub whole : n ≡ count * shown_bytes k
  unfolding count
  whole =
      let s : c.log ≡ (c.log - k) + ((k - 3) + 3) = omega (arith, c.wide, c.enough) in
      let split : 2 ^ c.log ≡ 2 ^ (c.log - k) * (2 ^ (k - 3) * 8) =
      ap (λ i. 2 ^ i) s ∙ pow-add 2 (c.log - k) ((k - 3) + 3) ∙ ap (λ m. 2 ^ (c.log - k) * m) (pow-add 2 (k - 3) 3) in
      let e : 8 * n ≡ 2 ^ (c.log - k) * 2 ^ (k - 3) * 8 = c.cells ∙ split ∙ sym (mul_assoc (2 ^ (c.log - k)) (2 ^ (k - 3)) 8) in
      let few : k - 3 ≡ min k 7 - 3 = omega (arith, c.narrow) in
      omega (arith, e, ap (λ i. 2 ^ (c.log - k) * 2 ^ i) few, ap (λ s. 2 ^ (c.log - k) * s) (shown_power k))

  pub counted : (m : ℕ) → m ≡ n / shown_bytes k → m ≡ count
  counted m e = e ∙ ap (λ i. i / shown_bytes k) whole ∙ mul-div_cancel count (some_shown k)

  pub some : (m : ℕ) → m ≡ n / shown_bytes k → 0 < m
  unfolding count
  some m e = omega (arith, counted m e, pow_pos (c.log - k))

  pub packs : (m v : ℕ) → m ≡ n / shown_bytes k → 2 ^ v ≤ m → m < 2 * 2 ^ v → Packs k n v
  unfolding count
  packs m v e low high =
      let q = counted m e in
      let up = log_le (c.log - k) v (omega arith) in
      let down = log_le v (c.log - k) (omega (arith, pow_pos v)) in
      let same : c.log - k ≡ v = omega arith in
      record { narrow = c.narrow; bytes = whole ∙ ap (λ i. 2 ^ i * shown_bytes k) same }

trailing_power : (w v : ℕ) → v < w → count_trailing_zeros w (2 ^ v) ≡ v
unfolding count_trailing_zeros
trailing_power zero v h = absurd (omega arith)
trailing_power (suc w) zero h = refl
trailing_power (suc w) (suc v) h =
    let even : 2 ^ suc v % 2 ≡ 0 = omega (arith, pow-suc 2 v) in
    let half : 2 ^ suc v / 2 ≡ 2 ^ v = omega (arith, pow-suc 2 v) in
    ap₂ under even (ap (count_trailing_zeros w) half ∙ trailing_power w v (omega arith))

module _ (k n v : ℕ) (p : Packs k n v) (small : n ≤ 2 ^ 24) where
  pub few : v ≤ 24
  few = log_le v 24 (omega (arith, p.bytes, mul-le-mul_left (2 ^ v) (some_shown k), mul-one (2 ^ v)))

  pub variables_are : v ≡ variables_of k n
  variables_are =
      sym (ap (λ m. count_trailing_zeros 64 (m / shown_bytes k)) p.bytes ∙ ap (count_trailing_zeros 64) (mul-div_cancel (2 ^ v) (some_shown k)) ∙ trailing_power 64 v (omega (arith, few)))

  pub cells_few : 2 ^ v * 2 ^ k ≤ 2 ^ 64
  cells_few =
      let f = few in
      let t : 2 ^ v ≤ 2 ^ 24 = pow_mono f in
      let w : 2 ^ k ≤ 2 ^ 7 = pow_mono p.narrow in
      le_trans (mul-le (2 ^ v) (2 ^ k) (2 ^ 24) (2 ^ 7) t w) (lit≤ tt)
