use Rattle.std.proofs.Common.{◌≡◌, ◌<◌, sym, ap, ◌∙◌, arith}
use Rattle.std.specs.Int.Bits.{bit_xor}
use Rattle.level.specs.Bytes.{digits, sixteen}
use Rattle.level.specs.Element.{cut}
use Rattle.level.proofs.Elements.{cut_small}
use Rattle.level.proofs.Words.{to_le_bytes}
use Rattle.redundant_level.proofs.masked_byte.MaskedByteLevel.to_bytes.Goals as goal

pub returns : goal.returns
unfolding sixteen
returns c =
    let n = bit_xor c.args.self.share c.args.self.mask in
    let small : n < 256 = omega (arith, c.byte.ensures, c.byte.type_inv) in
    let same : (cut 3 n).number ≡ n = cut_small 3 n small in
    to_le_bytes c.from.result _ c.to_le_bytes.ensures ∙ ap (digits 16) (c.from.ensures ∙ c.byte.ensures ∙ sym same)
