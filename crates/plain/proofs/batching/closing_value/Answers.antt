use Rattle.std.proofs.Common.{map, ◌∙◌, rules, arith}
use lib.ListN.{length-map}
use Rattle.std.specs.Option.{option_map}
use Rattle.ring_switch.specs.Opening.{rest, kept_rows}
use Rattle.ring_switch.proofs.SlotTensors.{stepped_slot}
use Rattle.opening.specs.Openings.{opening_of}
use Rattle.opening.specs.Batches.{rows_of, weights_of}
use Rattle.plain.proofs.Claimed.{is_closing}
use Rattle.plain.proofs.batching.closing_value.Goals as goal

pub returns-clause-value : goal.returns-clause-value
returns-clause-value g c = c.value_at.ensures (weights_of g.L.Level c.args.batch.now) (λ i x h e. search rules)

pub returns-clause-closing : goal.returns-clause-closing
returns-clause-closing g c len =
    let m = g.L.Level in
    let b = c.args.batch.now in
    let r = b.reduction in
    let o = opening_of m r in
    let z = c.args.z.now in
    let rows = (stepped_slot g.met.L.Level.ring o (omega (arith, r.rows, length-map r.point.now m.means))).row_coordinates in
    is_closing g.met.L.Level.ring (rows_of m b) (rest m.arithmetic o) (map m.means z) (kept_rows o) (option_map m.means b.alpha) _
    (returns-clause-value g c) rows (length-map z m.means ∙ len)
