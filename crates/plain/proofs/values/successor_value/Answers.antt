use Rattle.std.proofs.Common.{rules, ap, ◌∙◌, arith}
use lib.ListN.{length-map}
use Rattle.multilinear.specs.Cells.{cell, standing, one_row_on}
use Rattle.ring_switch.specs.ClaimLaws.{value}
use Rattle.opening.specs.Openings.{opening_of}
use Rattle.plain.proofs.Bits.{named_or_none}
use Rattle.plain.proofs.Claimed.{is_successor_claim}
use Rattle.plain.proofs.Packing.{cell_binary}
use Rattle.plain.proofs.values.successor_value.Goals as goal

pub returns-clause-value : goal.returns-clause-value
unfolding one_row_on
returns-clause-value g c =
    let m = g.L.Level in
    let bits = cell c.args.bits.now in
    let o = opening_of m c.args.reduction.now in
    c.value_at.ensures (λ i. standing m.arithmetic (one_row_on c.new-rows.result.row_variables bits i)) (λ i x h e. search rules)
    ∙ ap (λ q. value m.arithmetic o (one_row_on q bits)) (c.new-rows.ensures ∙ c.unwrap_or.ensures ∙ named_or_none c.args.reduction.now.view)

pub returns-clause-claim : goal.returns-clause-claim
returns-clause-claim g c =
    let m = g.L.Level in
    let r = c.args.reduction.now in
    let bits = c.args.bits.now in
    let p = length-map r.point.now m.means in
    is_successor_claim g.met.L.Level.ring (cell bits) (cell_binary bits) (opening_of m r) _ (returns-clause-value g c)
    (omega (arith, r.absorbs, p)) (omega (arith, r.rows, p))
