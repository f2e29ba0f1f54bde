use mathlib.Core.Path.{ap, ◌∙◌}
use Rattle.level.specs.Element.{cut}
use Rattle.level.proofs.Elements.{cut_zero}
use Rattle.redundant_level.proofs.masked_byte.MaskedByteLevel.zero.Goals as goal

pub returns : goal.returns
returns c = ap (cut 3) c.zero_shares.ensures ∙ cut_zero 3
