use Rattle.tensor_algebra.proofs.SubsetSums.{subset_sums_are_linear}
use Rattle.tensor_algebra.proofs.subsets.subset_sums_are_linear.Goals as goal

pub returns : goal.returns
returns c = subset_sums_are_linear
