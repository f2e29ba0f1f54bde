use mathlib.Core.Path.{◌≡◌, ap, ◌∙◌}
use Prim.Native.Nat.{◌^◌, ◌<◌, ◌≤◌}
use native.Mathlib.Omega.{arith}
use borrow.Author.Rules.{rules}
use Rattle.level.specs.Bytes.{le_number}
use Rattle.level.proofs.Words.{to_le_bytes, from_le_bytes}
use Rattle.doubling.proofs.Shifts.{shift_fits, from_wide, from_narrow}
use Rattle.doubling.proofs.doubling.DoublingLevel.from_bytes.Goals as goal

pub returns-then-k-ge7 : goal.returns-then-k-ge7
returns-then-k-ge7 g c =
    let bs = c.args.bytes in
    let bits : c.from_le_bytes-bits.result ≡ le_number bs = from_le_bytes bs _ (search rules) c.from_le_bytes-bits.ensures in
    let k : 7 ≤ g.L.Level.log = omega (arith, c.log_width-k.ensures, c.if-k-ge7.true) in
    from_wide bs k (omega (arith, bits, c.from_le_bytes-bits.type_inv)) c.from_bytes-low.ensures c.zero.ensures

pub upper-above-requires : goal.upper-above-requires
upper-above-requires g c = rw c.coordinates.ensures (shift_fits _ c.if-k-ge7.false)

pub returns : goal.returns
returns g c =
    let m = g.L.Level in
    let bs = c.args.bytes in
    let bits : c.from_le_bytes-bits.result ≡ le_number bs = from_le_bytes bs _ (search rules) c.from_le_bytes-bits.ensures in
    let k : m.log < 7 = omega (arith, c.log_width-k.ensures, c.if-k-ge7.false) in
    let same : c.log_width-k.result ≡ m.log = omega (arith, c.log_width-k.ensures) in
    let w : c.coordinates.result ≡ 2 ^ m.log = c.coordinates.ensures ∙ ap (λ n. 2 ^ n) same in
    from_narrow bs _ k bits w c.upper-above.ensures (to_le_bytes c.upper-above.result c.to_le_bytes.result c.to_le_bytes.ensures) c.from_bytes-low.ensures c.from_bytes.ensures
