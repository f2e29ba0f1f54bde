use Rattle.std.proofs.Common.{◌≡◌, ◌<◌, ◌∷◌, replicate, sym, ap, ◌∙◌, arith, rules}
use Rattle.level.specs.Bytes.{digits, sixteen}
use Rattle.level.specs.Element.{cut}
use Rattle.level.proofs.Elements.{cut_small}
use Rattle.level.proofs.Words.{to_le_bytes, sixteen_byte}
use Rattle.level_tests.proofs.bytes.first.Goals as goal

pub returns : goal.returns
unfolding sixteen
returns c =
    let b = c.args.byte in
    let small : b < 256 = search rules in
    let same : (cut 3 b).number ≡ b = cut_small 3 b small in
    to_le_bytes c.from.result _ c.to_le_bytes.ensures ∙ ap (digits 16) (c.from.ensures ∙ sym same)
    ∙ sixteen_byte (cut 3 b) (omega arith) ∙ ap (λ n. n ∷ replicate 15 0) same
