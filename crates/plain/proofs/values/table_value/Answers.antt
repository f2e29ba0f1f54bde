use Rattle.std.proofs.Common.{rules, arith}
use lib.ListN.{length-map}
use Rattle.multilinear.specs.Cells.{cell, standing}
use Rattle.opening.specs.Openings.{opening_of}
use Rattle.plain.proofs.Claimed.{is_incoming}
use Rattle.plain.proofs.Packing.{cell_binary}
use Rattle.plain.proofs.values.table_value.Goals as goal

pub returns-clause-value : goal.returns-clause-value
returns-clause-value g c = c.value_at.ensures (λ i. standing g.L.Level.arithmetic (cell c.args.bits.now i)) (λ i x h e. search rules)

pub returns-clause-incoming : goal.returns-clause-incoming
returns-clause-incoming g c =
    let m = g.L.Level in
    let r = c.args.reduction.now in
    let bits = c.args.bits.now in
    is_incoming g.met.L.Level.ring (cell bits) (cell_binary bits) (opening_of m r) _ (returns-clause-value g c)
    (omega (arith, r.absorbs, length-map r.point.now m.means))
