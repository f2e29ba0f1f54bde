use Rattle.std.proofs.Common.{rules}
use Rattle.tensor.proofs.Tensors.{added_where_set, kept_where_clear}
use Rattle.tensor.proofs.rows.add_where.Goals as goal

pub returns-then-set : goal.returns-then-set
returns-then-set g c = search (rules, added_where_set)

pub returns-else-set : goal.returns-else-set
returns-else-set g c = search (rules, kept_where_clear)
