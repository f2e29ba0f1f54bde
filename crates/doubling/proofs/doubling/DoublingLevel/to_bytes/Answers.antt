use mathlib.Core.Path.{◌≡◌, ap, ◌∙◌}
use Prim.Native.Nat.{◌^◌, ◌<◌}
use native.Mathlib.Omega.{arith}
use lib.ListN.{length}
use Rattle.level.specs.Bytes.{digits, le_number, sixteen}
use Rattle.level.proofs.Digits.{length_digits}
use Rattle.level.proofs.Words.{to_le_bytes, from_le_bytes, le_sixteen}
use Rattle.doubling.proofs.Shifts.{sixteen_wide, shift_fits, joined_number}
use Rattle.doubling.proofs.doubling.DoublingLevel.to_bytes.Goals as goal

pub returns-then-k-ge7 : goal.returns-then-k-ge7
returns-then-k-ge7 g c = c.to_bytes-low.ensures ∙ sixteen_wide _ _ (omega (arith, c.log_width-k.ensures, c.if-k-ge7.true))

pub joined-requires : goal.joined-requires
joined-requires g c = rw c.coordinates.ensures (shift_fits _ c.if-k-ge7.false)

pub returns : goal.returns
unfolding sixteen
returns g c =
    let m = g.L.Level in
    let a = m.means c.args.self.low in
    let b = m.means c.args.self.high in
    let k : m.log < 7 = omega (arith, c.log_width-k.ensures, c.if-k-ge7.false) in
    let same : c.log_width-k.result ≡ m.log = omega (arith, c.log_width-k.ensures) in
    let lo : c.from_le_bytes.result ≡ a.number =
    from_le_bytes _ _ (ap length c.to_bytes-low.ensures ∙ length_digits 16 _) c.from_le_bytes.ensures ∙ ap le_number c.to_bytes-low.ensures ∙ le_sixteen a (omega arith) in
    let hi : c.from_le_bytes-high.result ≡ b.number =
    from_le_bytes _ _ (ap length c.to_bytes.ensures ∙ length_digits 16 _) c.from_le_bytes-high.ensures ∙ ap le_number c.to_bytes.ensures ∙ le_sixteen b (omega arith) in
    let w : c.coordinates.result ≡ 2 ^ m.log = c.coordinates.ensures ∙ ap (λ n. 2 ^ n) same in
    to_le_bytes c.joined.result _ c.to_le_bytes.ensures
    ∙ ap (digits 16) (joined_number a b k lo hi w c.joined.ensures)
