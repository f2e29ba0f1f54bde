use Rattle.tensor_algebra.proofs.SubsetSums.{subset_sums_by_bytes}
use Rattle.tensor_algebra.proofs.subsets.subset_sums_by_bytes.Goals as goal

pub returns : goal.returns
returns c = subset_sums_by_bytes
