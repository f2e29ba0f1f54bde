-- The layout fits.
use Rattle.std.proofs.Common.{ℕ, zero, suc, ◌+◌, ◌-◌, ◌*◌, ◌^◌, ◌<◌, ◌≤◌, arith, pow_pos, pow-suc, pow_mono}
use Rattle.multilinear.specs.Equality.{inner_count}
use Rattle.level.specs.Bytes.{num_bytes}
use Rattle.reduction.specs.Layout.{most, outer_entries, inner_entries, layout_end, LayoutFits}

pub below_power : (k : ℕ) → k ≤ 2 ^ k
below_power zero = omega arith
below_power (suc k) = omega (arith, below_power k, pow-suc 2 k, pow_pos k)

pub outer_fits : (k c l : ℕ) → l ≤ c - k → outer_entries l ≤ most k c
outer_fits k c l h = pow_mono (let e : l - inner_count l ≤ c - k = omega arith in e)

pub inner_fits : (k c l : ℕ) → l ≤ c - k → inner_entries l ≤ most k c
inner_fits k c l h = pow_mono (let e : inner_count l ≤ c - k = omega arith in e)

pub fits : LayoutFits
fits = record {
  within = λ k c h. omega arith;
  outer = outer_fits;
  inner = inner_fits;
  batching = below_power;
  fold = λ k. omega arith;
}

-- and its places are numbers of 64 bits
pub end_small : (k c : ℕ) → k ≤ 7 → c < 48 → layout_end k c < 2 ^ 64
end_small k c h g =
    let d : 2 ^ k ≤ 2 ^ 7 = pow_mono h in
    let C : 2 ^ (c - k) ≤ 2 ^ 47 = pow_mono (let e : c - k ≤ 47 = omega arith in e) in
    let d' : 2 ^ k ≤ 128 = d in
    let C' : 2 ^ (c - k) ≤ 140737488355328 = C in
    let b : num_bytes k ≤ 16 = omega (arith, d') in
    let e : layout_end k c < 18446744073709551616 = omega (arith, d', C', b) in e

-- the packed elements of an opened table fit
pub elements_fit : (k c n : ℕ) → n ≤ c → 2 ^ (n - k) ≤ most k c
elements_fit k c n h = pow_mono (let e : n - k ≤ c - k = omega arith in e)
