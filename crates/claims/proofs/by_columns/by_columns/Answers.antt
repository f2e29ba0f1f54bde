use Rattle.std.proofs.Common.{rules}
use Rattle.claims.proofs.Weighing.{columns_weighed}
use Rattle.claims.proofs.by_columns.by_columns.Goals as goal

pub returns-clause-value : goal.returns-clause-value
returns-clause-value g c = search (rules, columns_weighed)
