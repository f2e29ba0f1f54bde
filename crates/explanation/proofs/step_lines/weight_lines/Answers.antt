use Rattle.std.proofs.Common.{◌≡◌, ℕ, ◌^◌, List, ◌++◌, length, string_bytes, codes, sym, ap, ◌∙◌, arith}
use lib.ListN.{length-map}
use Rattle.std.proofs.lemmas.Nat.{one_shl}
use Rattle.element_text.specs.Hex.{element_text}
use Rattle.ring_switch.specs.Opening.{rest}
use Rattle.ring_switch.specs.Slots.{slot_count}
use Rattle.opening.specs.Openings.{opening_of}
use Rattle.explanation.proofs.Closing.{few_coordinates}
use Rattle.report_lines.specs.Report.{lines_below}
use Rattle.opening.specs.Batches.{weights_of}
use Rattle.report_lines.specs.Lines.{line}
use Rattle.report_lines.proofs.Writing.{below_none, below_more}
use Rattle.explanation.proofs.step_lines.weight_lines.Goals as goal

pub loop-i-init : goal.loop-i-init
loop-i-init g c = below_none _ _

pub loop-i-preserved : goal.loop-i-preserved
loop-i-preserved g c =
    let m = g.L.Level in
    let f : ℕ → List ℕ = λ j. line (codes "weight") (element_text (weights_of m c.args.batch.now j)) in
    below_more f (string_bytes c.args.out.now) (string_bytes c.loop-i.out) (string_bytes c.line.new.out) _ c.loop-i.i c.loop-i.invariant
    c.in_ok-line.ensures (ap (λ x. line (codes "weight") (element_text x)) c.weight.ensures)

pub returns : goal.returns
returns g c =
    let m = g.L.Level in
    let b = c.args.batch.now in
    let r = b.reduction in
    let o = opening_of m r in
    let n = length c.rest.result.now in
    let l : n ≡ length (rest m.arithmetic o) = sym (length-map c.rest.result.now m.means) ∙ ap length c.rest.ensures.rest in
    let few = few_coordinates g.met.L.Level.ring o (omega (arith, r.few, length-map r.point.now m.means)) in
    let all : c.loop-i.i ≡ slot_count m.arithmetic o = omega (arith, one_shl n 64 (omega arith), ap (λ i. 2 ^ i) l) in
    c.loop-i.invariant ∙ ap (λ i. string_bytes c.args.out.now ++ lines_below i (λ j. line (codes "weight") (element_text (weights_of m b j)))) all
