-- Sums of exterior products a byte at a time, and under a common factor of the first leg.
use Rattle.std.proofs.Common.{◌≡◌, ℕ, ◌+◌, ◌*◌, ◌/◌, ◌%◌, ◌^◌, ◌<◌, eqb, sym, ap, ◌∙◌, arith}
use Rattle.level.specs.Element.{Element, width}
use Rattle.level.specs.Laws.{Arithmetic, Laws}
use Rattle.level.proofs.Digits.{bit_of_byte}
use Rattle.multilinear.specs.Sums.{sum, at_bit, where_set}
use Rattle.multilinear.proofs.Sums.{sum_same, sum_rows, sum_exchange, at_bit_sum}
use Rattle.multilinear.proofs.Windows.{sum_single, at_bit_where}
use Rattle.tensor_algebra.specs.Tensor.{Tensor, exterior, scale_columns}
use Rattle.tensor_algebra.specs.Subsets.{basis, byte}
use Rattle.tensor_algebra.specs.Buckets.{bucket, RowsFromBuckets, ColumnsAreScaled}
use Rattle.tensor_algebra.proofs.Columns.{scale_columns_same, scale_columns_exteriors}
use Rattle.tensor_algebra.proofs.Basis.{eqb_comm, rows_by_basis}

module _ {k : ℕ} where
  -- one entry stands in the bucket of its byte alone
  one_bucket : (a b : Element k) (j i : ℕ) → i < 8
      → sum 256 (λ s. at_bit (s / 2 ^ i % 2) (where_set (eqb (byte a j) s) b)) ≡ exterior a b (8 * j + i)
  unfolding exterior
  one_bucket a b j i h =
      sum_same 256 _ _ (λ s _. at_bit_where (s / 2 ^ i % 2) (eqb (byte a j) s) b ∙ ap (λ c. where_set c (at_bit (s / 2 ^ i % 2) b)) (eqb_comm (byte a j) s))
      ∙ sum_single 256 (byte a j) (omega arith) (λ s. at_bit (s / 2 ^ i % 2) b)
      ∙ ap (λ c. at_bit c b) (bit_of_byte a.number (8 * j) i h)

  pub row_from_buckets : (a b : ℕ → Element k) (n j i : ℕ) → i < 8
      → sum n (λ w. exterior (a w) (b w) (8 * j + i)) ≡ sum 256 (λ s. at_bit (s / 2 ^ i % 2) (bucket a b n j s))
  unfolding bucket
  row_from_buckets a b n j i h =
      sum_same n _ _ (λ w _. sym (one_bucket (a w) (b w) j i h))
      ∙ sum_exchange n 256 (λ w s. at_bit (s / 2 ^ i % 2) (where_set (eqb (byte (a w) j) s) (b w)))
      ∙ sum_same 256 _ _ (λ s _. sym (at_bit_sum (s / 2 ^ i % 2) n (λ w. where_set (eqb (byte (a w) j) s) (b w))))

pub rows_from_buckets : RowsFromBuckets
rows_from_buckets k = row_from_buckets

module _ {k : ℕ} {A : Arithmetic k} (laws : Laws A) where
  pub scale_columns_rows : (a : Element k) (t : Tensor k) (u : ℕ)
      → scale_columns A a t u ≡ sum (width k) (λ i. exterior (A.times a (basis k i)) (t i) u)
  scale_columns_rows a t u = scale_columns_same laws a t _ (rows_by_basis t) u ∙ scale_columns_exteriors laws a (width k) (basis k) t u

  of_tables : (n m : ℕ) (e outer inner t : ℕ → Element k) → ((b j : ℕ) → b < n → j < m → e (b * m + j) ≡ A.times (outer b) (inner j)) → (u : ℕ)
      → sum (n * m) (λ w. exterior (e w) (t w) u) ≡ sum n (λ b. scale_columns A (outer b) (λ v. sum m (λ j. exterior (inner j) (t (b * m + j)) v)) u)
  of_tables n m e outer inner t f u =
      sum_rows n m (λ w. exterior (e w) (t w) u)
      ∙ sum_same n _ _ (λ b hb.
      sum_same m _ _ (λ j hj. ap (λ x. exterior x (t (b * m + j)) u) (f b j hb hj))
      ∙ sym (scale_columns_exteriors laws (outer b) m inner (λ j. t (b * m + j)) u))

pub columns_are_scaled : ColumnsAreScaled
columns_are_scaled = record {
  of_blocks = λ laws o n a b u. sym (scale_columns_exteriors laws o n a b u);
  of_tables = of_tables;
  by_rows = scale_columns_rows;
}
