use mathlib.Core.Path.{sym, ◌∙◌}
use native.Mathlib.Omega.{arith}
use Rattle.level.proofs.Words.{from_first_byte}
use Rattle.doubling.proofs.Bits.{bit_cut}
use Rattle.doubling.proofs.bit.BitLevel.from_bytes.Goals as goal

pub returns : goal.returns
returns c = bit_cut c.is_odd.result _ c.is_odd.ensures ∙ sym (from_first_byte 0 c.args.bytes (omega arith))
