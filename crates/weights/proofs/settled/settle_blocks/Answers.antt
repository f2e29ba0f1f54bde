use Rattle.std.proofs.Common.{◌≡◌, ◌+◌, ◌-◌, ◌*◌, ◌<◌, ◌≤◌, length, sym, ap, subst, arith, mul-le-mul_right}
use Rattle.multilinear.specs.Lent.{lent}
use Rattle.multilinear.proofs.Lent.{lent_read}
use Rattle.basis.specs.Tables.{Tabulated, scaled_weights}
use Rattle.weights.specs.Settled.{through}
use Rattle.weights.proofs.Settling.{block_more, block_through}
use Rattle.weights.proofs.settled.settle_blocks.Goals as goal

pub loop-block-preserved : goal.loop-block-preserved
loop-block-preserved g c =
    let m = g.L.Level in
    let eq = c.args.equality.now in
    let sums = lent m.means c.args.sums.now.tables.now in
    let b = c.loop-block.block in
    let w = length eq.inner.now in
    let len = c.block_len-len.result in
    let start-is : b * len ≡ b * w = ap (λ n. b * n) c.block_len-len.ensures in
    let within : b < length eq.outer.now = omega arith in
    let fits : b * w ≤ length eq.outer.now * w = mul-le-mul_right w (omega arith) in
    let tables : Tabulated (scaled_weights m.arithmetic sums (m.means c.weight-item.result)) (lent m.means c.new.result.tables.now) =
    subst (λ xs. Tabulated (scaled_weights m.arithmetic sums (m.means c.weight-item.result)) (lent m.means xs)) (sym c.new.ensures) c.scaled_sums_into.ensures in
    block_more m.means (through m eq sums) b w (b * len) (b * len + len - b * len) c.loop-block.table c.apply_into.new.output start-is (omega (arith, c.block_len-len.ensures))
    (omega (arith, start-is, fits)) (omega arith)
    (λ i h. block_through m eq sums (lent m.means c.new.result.tables.now) (m.means c.weight-item.result) b i _ h
    (lent_read m.means eq.outer.now b _ within c.weight-item.is) tables (c.apply_into.ensures i h))
    c.loop-block.invariant
