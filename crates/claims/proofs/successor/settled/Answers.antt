use Rattle.std.proofs.Common.{◌∙◌, arith}
use Rattle.claims.proofs.Weighing.{by_columns_same}
use Rattle.claims.proofs.successor.settled.Goals as goal

pub returns-clause-value : goal.returns-clause-value
returns-clause-value g c =
    c.by_columns-sum.ensures.value ∙ by_columns_same g.L.Level.arithmetic _ _ _ (λ v h. c.successor_low_weights.ensures v (omega (arith, c.args.eq_low.sized)))
