-- The rows of an element's bytes that are being read out, byte by byte, and what they are.
use Rattle.std.proofs.Common.{◌≡◌, ℕ, zero, suc, ◌+◌, ◌*◌, ◌/◌, ◌%◌, ◌^◌, ◌<◌, ◌≤◌, ◌⊎◌, inl, inr, min, List, length, take, drop, sym, ap, ◌∙◌, ⊎_elim, pow_pos, arith, below_more}
use borrow.Rule.Slice.PartMut.{put_mid}
use Rattle.std.proofs.lemmas.Bool.{cases_lt}
use Rattle.level.specs.Bytes.{num_bytes}
use Rattle.level.specs.Element.{Element, width}
use Rattle.multilinear.specs.Lent.{lent}
use Rattle.multilinear.specs.Sums.{sum, at_bit}
use Rattle.multilinear.proofs.Sums.{sum_same, sum_none}
use Rattle.multilinear.proofs.Coordinates.{coordinate_past}
use Rattle.tensor_algebra.specs.Buckets.{bucket}
use Rattle.tensor_algebra.specs.Tensor.{exterior}
use Rattle.tensor_algebra.proofs.BucketSums.{row_from_buckets}
use Rattle.products.specs.Buckets.{Bucketed, Summed}
use Rattle.products.specs.Halves.{halvings, of_byte, with_bit, ByteRead, RowsOf, AllHalved}
use Rattle.multilinear.proofs.Places.{before_part, in_part, past_part, of_part}
use Rattle.multilinear.proofs.Lent.{lent_past}
use Rattle.products.proofs.RowsByHalves.{halvings_same}

-- an element is narrower than a byte or of whole bytes
narrow_or_whole : (k : ℕ) → ((num_bytes k ≡ 1) × (width k ≤ 8)) ⊎ (width k ≡ 8 * num_bytes k)
narrow_or_whole zero = inl (omega arith, omega arith)
narrow_or_whole (suc zero) = inl (omega arith, omega arith)
narrow_or_whole (suc (suc zero)) = inl (omega arith, omega arith)
narrow_or_whole (suc (suc (suc k))) =
    let power : 2 ^ suc (suc (suc k)) ≡ 8 * 2 ^ k = omega arith in inr (omega (arith, pow_pos k, power))

-- the rows of byte j stand among an element's rows
pub byte_fits : (k j : ℕ) → j < num_bytes k → 8 * j + min (width k) 8 ≤ width k
byte_fits k j h = ⊎_elim (λ n. omega (arith, n.0, n.1)) (λ e. omega (arith, e)) (narrow_or_whole k)

-- row u stands among those of its byte
pub row_fits : (k u : ℕ) → u < width k → (u / 8 < num_bytes k) × (u % 8 < min (width k) 8)
row_fits k u h = ⊎_elim (λ n. (omega (arith, n.0, n.1), omega (arith, n.0, n.1))) (λ e. (omega (arith, e), omega (arith, e))) (narrow_or_whole k)

-- the rows of the bytes below n are read out, `count` of each
pub record BytesRead {k : ℕ} (count n : ℕ) (before after rows_after : ℕ → Element k) : Type 0 where
  pub rows : (j i : ℕ) → j < n → i < count → rows_after (8 * j + i) ≡ with_bit i (of_byte j before)
  pub buckets : (j s : ℕ) → j < n → s < 256 → after (256 * j + s) ≡ halvings 8 (of_byte j before) s
  pub left : (i : ℕ) → 256 * n ≤ i → after i ≡ before i

module _ {k : ℕ} (before : ℕ → Element k) where
  -- one byte more, read out of its part of the buckets into its part of the rows
  pub bytes_more : {X : Type 0} (means : X → Element k) (count n : ℕ) (now chunk ys rows_chunk : List X) (wide narrow : ℕ) → wide ≡ 256 → narrow ≡ count → count ≤ 8
      → 256 * n + 256 ≤ length now → 8 * n + count ≤ length ys → length chunk ≡ 256 → length rows_chunk ≡ count
      → ByteRead count (lent means (take wide (drop (256 * n) now))) (lent means chunk) (lent means rows_chunk)
      → BytesRead count n before (lent means now) (lent means ys)
      → BytesRead count (n + 1) before (lent means (put_mid (256 * n) wide now chunk)) (lent means (put_mid (8 * n) narrow ys rows_chunk))
  bytes_more means count n now chunk ys rows_chunk wide narrow all_buckets all_rows few room rows_room size rows_size r w =
      let held : ℕ → Element k = lent means (take wide (drop (256 * n) now)) in
      let as_before : (s : ℕ) → s < 256 → held s ≡ of_byte n before s =
      λ s l. of_part means (256 * n) wide now s (omega arith) ∙ w.left (256 * n + s) (omega arith) in
      record {
        rows = λ j i h l.
            below_more (λ a. lent means (put_mid (8 * n) narrow ys rows_chunk) (8 * a + i) ≡ with_bit i (of_byte a before)) n
            (λ a g. before_part means (8 * n) narrow ys rows_chunk (8 * a + i) (omega arith) (omega arith) ∙ w.rows a i g l)
            (in_part means (8 * n) narrow ys rows_chunk i (omega arith) (omega arith) ∙ r.rows i l
            ∙ sum_same 256 _ _ (λ s m. ap (at_bit (s / 2 ^ i % 2)) (as_before s m))) j h;
        buckets = λ j s h l.
            below_more (λ a. lent means (put_mid (256 * n) wide now chunk) (256 * a + s) ≡ halvings 8 (of_byte a before) s) n
            (λ a g. before_part means (256 * n) wide now chunk (256 * a + s) (omega arith) (omega arith) ∙ w.buckets a s g l)
            (in_part means (256 * n) wide now chunk s (omega arith) (omega arith) ∙ r.buckets s l
            ∙ halvings_same 8 held (of_byte n before) (omega arith) as_before s l) j h;
        left = λ i h. past_part means (256 * n) wide now chunk i (omega arith) (omega arith) (omega arith) ∙ w.left i (omega arith);
      }

  -- the rows of all bytes
  pub all_rows : {X : Type 0} (means : X → Element k) (count n : ℕ) (after : ℕ → Element k) (ys : List X) → count ≡ min (width k) 8 → n ≡ num_bytes k
      → length ys ≡ width k → BytesRead count n before after (lent means ys) → RowsOf before (lent means ys)
  all_rows means count n after ys each all size w = record {
    row = λ u h.
        let place : u ≡ 8 * (u / 8) + u % 8 = omega arith in
        let fits = row_fits k u h in
        ap (lent means ys) place ∙ w.rows (u / 8) (u % 8) (omega (arith, fits.0)) (omega (arith, fits.1));
    past = λ u h. lent_past means ys u (omega arith);
  }

module _ {k : ℕ} (a b : ℕ → Element k) (n : ℕ) (held : ℕ → Element k) (made : Bucketed a b n held) where
  -- Where terms gave the buckets, the rows are those of their sum.
  pub rows_summed : (rows : ℕ → Element k) → RowsOf held rows → Summed a b n rows
  unfolding exterior at_bit
  rows_summed rows r u =
      let place : u ≡ 8 * (u / 8) + u % 8 = omega arith in
      ⊎_elim
      (λ h.
      r.row u h ∙ sum_same 256 _ _ (λ s g. ap (at_bit (s / 2 ^ (u % 8) % 2)) (made (u / 8) s (row_fits k u h).0 g))
      ∙ sym (row_from_buckets a b n (u / 8) (u % 8) (omega arith)) ∙ ap (λ v. sum n (λ w. exterior (a w) (b w) v)) (sym place))
      (λ h. r.past u h ∙ sym (sum_none n _ (λ w _. ap (λ c. at_bit c (b w)) (coordinate_past (a w) u h))))
      (cases_lt u (width k))

  -- and the buckets that are left are theirs, halved
  pub buckets_halved : (after : ℕ → Element k) → AllHalved (λ j. of_byte j held) after → AllHalved (bucket a b n) after
  buckets_halved after h j s l m = h j s l m ∙ halvings_same 8 _ _ (omega arith) (λ t. made j t l) s m
