use Rattle.std.proofs.Common.{refl}
use Rattle.job_rules.specs.Capacity.{largest, capacity}
use Rattle.job_rules.proofs.Largest.{is_largest}
use Rattle.job_rules.proofs.laws.capacities_stand.Goals as goal

pub returns : goal.returns
unfolding capacity largest
returns c = record { largest = is_largest; full = refl; thirteen = refl; twelve = refl; three = refl; none = refl }
