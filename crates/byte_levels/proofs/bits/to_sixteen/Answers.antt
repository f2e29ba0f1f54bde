use Rattle.std.proofs.Common.{◌∙◌, ap, rules}
use Rattle.level.specs.Bytes.{digits}
use Rattle.level.proofs.Words.{to_le_bytes}
use Rattle.byte_levels.proofs.Coordinates.{to_sixteen}
use Rattle.byte_levels.proofs.bits.to_sixteen.Goals as goal

pub returns : goal.returns
returns c = to_le_bytes c.from.result _ c.to_le_bytes.ensures ∙ ap (digits 16) c.from.ensures ∙ to_sixteen c.args.value (search rules)
