use Prim.Native.Nat.{◌<◌}
use native.Mathlib.Omega.{arith}
use lib.Bits.{bit_xor, xor_lt}
use Rattle.level.proofs.Elements.{cut_same}
use Rattle.redundant_level.proofs.masked_byte.MaskedByteLevel.equals.Goals as goal

pub returns-clause-found : goal.returns-clause-found
returns-clause-found c e =
    let x = c.args.self in
    let y = c.args.other in
    let small-x : bit_xor x.share x.mask < 256 = xor_lt 8 x.share x.mask (omega arith) (omega arith) in
    let small-y : bit_xor y.share y.mask < 256 = xor_lt 8 y.share y.mask (omega arith) (omega arith) in
    c.same_byte.ensures.found (cut_same 3 _ _ small-x small-y e)
