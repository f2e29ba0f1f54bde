use Rattle.explanation.proofs.Values.{values_are}
use Rattle.explanation.proofs.steps.opening_values.Goals as goal

pub returns : goal.returns
returns g c = values_are _ _ _ _ _ _ _ c.table_value.ensures.value c.viewed_value.ensures c.fixed_prefix.ensures.count c.fixed_prefix.ensures.address
