use mathlib.Core.Path.{ap₂, ◌∙◌}
use lib.Bits.{bit_xor}
use Rattle.level.specs.Element.{cut}
use Rattle.redundant_level.specs.Shares.{sum_shares}
use Rattle.redundant_level.proofs.masked_byte.MaskedByteLevel.add.Goals as goal

pub returns : goal.returns
returns c =
    let s = c.sum_shares.ensures in
    ap₂ (λ m n. cut 3 (bit_xor m n)) s.share s.mask ∙ sum_shares c.args.self.share c.args.self.mask c.args.other.share c.args.other.mask
