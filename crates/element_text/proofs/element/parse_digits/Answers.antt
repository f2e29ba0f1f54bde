use Rattle.std.proofs.Common.{ℕ, subst, arith}
use Rattle.element_text.specs.Hex.{Parsed}
use Rattle.element_text.proofs.Parsing.{writes}
use Rattle.element_text.proofs.element.parse_digits.Goals as goal

pub returns : goal.returns
returns g c =
    let n = c.byte_count.ensures.value in
    let text = c.args.text.now in
    let bytes = c.in_ok-bytes.bytes in
    writes text bytes _ (omega (arith, c.byte_count.ensures.bound)) c.requires (subst (λ (i : ℕ). Parsed i text bytes) n c.in_ok-bytes.ensures) c.from_bytes.ensures
