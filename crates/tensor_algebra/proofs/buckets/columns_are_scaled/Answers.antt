use Rattle.tensor_algebra.proofs.BucketSums.{columns_are_scaled}
use Rattle.tensor_algebra.proofs.buckets.columns_are_scaled.Goals as goal

pub returns : goal.returns
returns c = columns_are_scaled
