-- The rows of a byte from its 256 buckets. Bit by bit from the highest, the sum of the upper half is the row of that bit, and with
-- the upper half added into the lower, the lower half alone serves the bits below.
use Rattle.std.specs.Prelude.{◌≡◌, ℕ, zero, suc, ◌+◌, ◌-◌, ◌*◌, ◌/◌, ◌%◌, ◌^◌, ◌<◌, ◌≤◌, cond, nat_lt}
use Rattle.level.specs.Element.{Element, width, plus, zeros}
use Rattle.level.specs.Bytes.{num_bytes}
use Rattle.multilinear.specs.Sums.{sum, at_bit}

-- each of the first n places has the place `half` further on added; every other place is left alone
pub record Halved {k : ℕ} (half n : ℕ) (before after : ℕ → Element k) : Type 0 where
  pub lower : (s : ℕ) → s < n → after s ≡ plus (before s) (before (half + s))
  pub kept : (s : ℕ) → n ≤ s → after s ≡ before s

-- a table of 256 entries after n halvings, the first at 128
unfoldable pub halvings : {k : ℕ} → ℕ → (ℕ → Element k) → ℕ → Element k
halvings zero f s = f s
halvings (suc n) f s =
    let half = 2 ^ (7 - n) in
    cond (nat_lt s half) (plus (halvings n f s) (halvings n f (half + s))) (halvings n f s)

-- the buckets of byte j
abbrev pub of_byte : {k : ℕ} → ℕ → (ℕ → Element k) → ℕ → Element k
of_byte j held s = held (256 * j + s)

-- the sum of the entries at the values with bit i set
abbrev pub with_bit : {k : ℕ} → ℕ → (ℕ → Element k) → Element k
with_bit i f = sum 256 (λ s. at_bit (s / 2 ^ i % 2) (f s))

-- the rows of a byte, n of them, are read out of its buckets, which are left halved eight times
pub record ByteRead {k : ℕ} (n : ℕ) (before after rows_after : ℕ → Element k) : Type 0 where
  pub rows : (i : ℕ) → i < n → rows_after i ≡ with_bit i before
  pub buckets : (s : ℕ) → s < 256 → after s ≡ halvings 8 before s

-- all rows, row u the sum of the buckets of byte u div 8 at the values with bit u mod 8 set; past the last row there is nothing
pub record RowsOf {k : ℕ} (held rows : ℕ → Element k) : Type 0 where
  pub row : (u : ℕ) → u < width k → rows u ≡ with_bit (u % 8) (of_byte (u / 8) held)
  pub past : (u : ℕ) → width k ≤ u → rows u ≡ zeros k

-- the buckets of each byte j are its table f(j), halved eight times
abbrev pub AllHalved : {k : ℕ} → (ℕ → ℕ → Element k) → (ℕ → Element k) → Type 0
AllHalved {k} f held = (j s : ℕ) → j < num_bytes k → s < 256 → held (256 * j + s) ≡ halvings 8 (f j) s
