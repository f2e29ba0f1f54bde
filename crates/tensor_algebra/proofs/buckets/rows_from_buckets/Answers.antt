use Rattle.tensor_algebra.proofs.BucketSums.{rows_from_buckets}
use Rattle.tensor_algebra.proofs.buckets.rows_from_buckets.Goals as goal

pub returns : goal.returns
returns c = rows_from_buckets
