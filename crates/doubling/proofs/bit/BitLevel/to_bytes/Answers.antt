use Rattle.std.proofs.Common.{◌≡◌, Bool, true, false, cond, refl, sym, ap, ◌∙◌}
use mir.Val.{bool_byte}
use Rattle.level.specs.Bytes.{digits, sixteen}
use Rattle.level.proofs.Words.{to_le_bytes}
use Rattle.doubling.proofs.Bits.{bit_number}
use Rattle.doubling.proofs.bit.BitLevel.to_bytes.Goals as goal

number : (b : Bool) → bool_byte b ≡ cond b 1 0
number true = refl
number false = refl

pub returns : goal.returns
unfolding sixteen
returns c =
    let b = c.args.self.set in
    to_le_bytes c.from.result _ c.to_le_bytes.ensures ∙ ap (digits 16) (c.from.ensures ∙ number b ∙ sym (bit_number b))
