use Rattle.multilinear.proofs.Entries.{factored}
use Rattle.multilinear.proofs.tables_factor.Goals as goal

pub returns : goal.returns
returns c = search factored
