use mathlib.Core.Path.{ap, ap₂, sym, ◌∙◌}
use native.Mathlib.Omega.{arith}
use lib.Bits.{bit_xor}
use Rattle.level.specs.Element.{cut}
use Rattle.level.proofs.Words.{from_first_byte}
use Rattle.redundant_level.specs.Shares.{unmasked}
use Rattle.redundant_level.proofs.masked_byte.MaskedByteLevel.from_bytes.Goals as goal

pub returns : goal.returns
returns c =
    let s = c.new.ensures in
    ap₂ (λ m n. cut 3 (bit_xor m n)) s.share s.mask ∙ ap (cut 3) (unmasked _ _) ∙ sym (from_first_byte 3 c.args.bytes (omega arith))
