use Rattle.std.proofs.Common.{ap, ◌∙◌, arith}
use Rattle.multilinear.specs.Lent.{lent}
use Rattle.basis.specs.Tables.{looked_up}
use Rattle.multilinear.proofs.Lent.{lent_read}
use Rattle.multilinear.proofs.Places.{filled_more}
use Rattle.basis.proofs.coordinate_sums.CoordinateSums.apply_into.Goals as goal

pub loop-i-preserved : goal.loop-i-preserved
loop-i-preserved g c =
    let m = g.L.Level in
    let tables = lent m.means c.args.self.now.tables.now in
    let input = c.args.input.now in
    filled_more m.means (λ i. looked_up tables (lent m.means input i)) c.loop-i.output c.loop-i.i _ (omega arith)
    (c.sum.ensures ∙ ap (looked_up tables) (lent_read m.means input c.loop-i.i _ (omega arith) c.index-input-i.is)) c.loop-i.invariant
