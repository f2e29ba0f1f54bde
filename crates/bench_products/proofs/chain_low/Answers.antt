use mathlib.Core.Path.{◌≡◌, ap, ap₂, ◌∙◌}
use Prim.Native.Nat.{◌%◌, ◌^◌}
use lib.Bits.{and_mask}
use lib.ListN.{length}
use Rattle.level.proofs.Words.{to_le_bytes, from_le_bytes, from_digits, le_sixteen}
use Rattle.level.proofs.Digits.{bytes_are_coordinates}
use Rattle.level.specs.Bytes.{from_sixteen, le_number}
use Rattle.level.specs.Element.{cut}
use Rattle.bench_products.specs.Chain.{chained, low_chained}
use Rattle.bench_products.proofs.chain_low.Goals as goal

pub returns : goal.returns
unfolding low_chained
returns g c =
    let k = g.L.Level.log in
    let m = g.L.Level.means in
    let start : m c.from_bytes-start.result ≡ cut k c.args.x =
    c.from_bytes-start.ensures ∙ ap (from_sixteen k) (to_le_bytes _ _ c.to_le_bytes.ensures) ∙ from_digits k _ c.requires ∙ ap (cut k) c.from.ensures in
    let factor : m c.from_bytes-factor.result ≡ cut k c.args.y =
    c.from_bytes-factor.ensures ∙ ap (from_sixteen k) (to_le_bytes _ _ c.to_le_bytes-2.ensures) ∙ from_digits k _ c.requires ∙ ap (cut k) c.from-2.ensures in
    let long : length c.to_bytes-bytes.result ≡ 16 = ap length c.to_bytes-bytes.ensures ∙ bytes_are_coordinates.shown_length (m c.chain.result) in
    let all : c.from_le_bytes.result ≡ (m c.chain.result).number =
    from_le_bytes c.to_bytes-bytes.result _ long c.from_le_bytes.ensures ∙ ap le_number c.to_bytes-bytes.ensures ∙ le_sixteen (m c.chain.result) c.requires in
    and_mask c.from_le_bytes.result 64
    ∙ ap (λ n. n % 2 ^ 64) (all ∙ ap (λ z. z.number) (c.chain.ensures ∙ ap₂ (chained g.L.Level.arithmetic c.args.n) start factor))
