use Rattle.products.proofs.Adding.{cleared_empty}
use Rattle.products.proofs.buckets.BitTensorBuckets.clear.Goals as goal

pub returns-clause-empty : goal.returns-clause-empty
returns-clause-empty g c = cleared_empty _ c.clear.ensures
