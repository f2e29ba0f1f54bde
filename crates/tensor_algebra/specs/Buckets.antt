-- Sums of exterior products a byte at a time, and under a common factor of the first leg.
use Rattle.std.specs.Prelude.{◌≡◌, ℕ, ◌+◌, ◌*◌, ◌/◌, ◌%◌, ◌^◌, ◌<◌, ◌==◌}
use Rattle.level.specs.Element.{Element, width}
use Rattle.level.specs.Laws.{Arithmetic, Laws}
use Rattle.multilinear.specs.Sums.{sum, at_bit, where_set}
use Rattle.tensor_algebra.specs.Tensor.{Tensor, exterior, scale_columns}
use Rattle.tensor_algebra.specs.Subsets.{basis, byte}

-- the sum of the b(w) with byte j of a(w) equal to s, over w below n
unfoldable pub bucket : {k : ℕ} → (ℕ → Element k) → (ℕ → Element k) → ℕ → ℕ → ℕ → Element k
bucket a b n j s = sum n (λ w. where_set (byte (a w) j == s) (b w))

-- row 8j + i of a sum of exterior products: the buckets of byte j whose byte has bit i set
abbrev pub RowsFromBuckets : Type 0
RowsFromBuckets =
    (k : ℕ) (a b : ℕ → Element k) (n j i : ℕ) → i < 8
    → sum n (λ w. exterior (a w) (b w) (8 * j + i)) ≡ sum 256 (λ s. at_bit (s / 2 ^ i % 2) (bucket a b n j s))

pub record ColumnsAreScaled : Type 0 where
  -- a common factor of the first legs scales the columns of the sum, so that of one block under its outer weight
  pub of_blocks : {k : ℕ} {A : Arithmetic k} → Laws A → (o : Element k) (n : ℕ) (a b : ℕ → Element k) (u : ℕ)
      → sum n (λ i. exterior (A.times o (a i)) (b i) u) ≡ scale_columns A o (λ v. sum n (λ i. exterior (a i) (b i) v)) u
  -- and the sum over n blocks of m entries each, where entry b·m + j of the left factors is outer weight b times the inner weight j that all
  -- blocks share
  pub of_tables : {k : ℕ} {A : Arithmetic k} → Laws A → (n m : ℕ) (e outer inner t : ℕ → Element k)
      → ((b j : ℕ) → b < n → j < m → e (b * m + j) ≡ A.times (outer b) (inner j)) → (u : ℕ)
      → sum (n * m) (λ w. exterior (e w) (t w) u) ≡ sum n (λ b. scale_columns A (outer b) (λ v. sum m (λ j. exterior (inner j) (t (b * m + j)) v)) u)
  -- scaled columns by the rows: row i stands at the set coordinates of the scaled basis element i
  pub by_rows : {k : ℕ} {A : Arithmetic k} → Laws A → (a : Element k) (t : Tensor k) (u : ℕ)
      → scale_columns A a t u ≡ sum (width k) (λ i. exterior (A.times a (basis k i)) (t i) u)
