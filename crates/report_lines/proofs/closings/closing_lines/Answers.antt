use Rattle.std.proofs.Common.{string_bytes, of_calls}
use Rattle.std.proofs.lemmas.Result.{err_from_is_err_and}
use Rattle.refusals.specs.Refusals.{ring_switch_refusal}
use Rattle.report_lines.specs.Closings.{Closes}
use Rattle.report_lines.proofs.Stopping.{answers_next, closes_refused, closes_more, closing_all}
use Rattle.report_lines.proofs.closings.closing_lines.Goals as goal

pub loop-z-preserved : goal.loop-z-preserved
loop-z-preserved g c = (
  search of_calls,
  λ b h.
      let m = g.L.Level in
      let inv = c.loop-z.invariant.1 b h in
      let next = answers_next g.F.FnMut (λ a r. Closes m.means m.arithmetic b a.0.now r) c.close.ensures inv.0 in
      let met = rw c.in_ok-close.was at next.0 in (
        next.1,
        closes_more m.means m.arithmetic b c.args.closings.now _ (string_bytes c.loop-z.out) c.loop-z.z-index inv.1 c.z-item.result c.loop-z-test.true c.z-item.is
            c.as_slice.result.now c.as_slice.ensures.value (m.means c.in_ok-close.field-0) (string_bytes c.line.new.out) met.0 met.1 c.in_ok-line.ensures,
      ),
)

pub returns-in_err-close : goal.returns-in_err-close
returns-in_err-close g c = λ b h.
    let m = g.L.Level in
    let inv = c.loop-z.invariant.1 b h in
    let next = answers_next g.F.FnMut (λ a r. Closes m.means m.arithmetic b a.0.now r) c.close.ensures inv.0 in
    let met = rw c.in_err-close.was at next.0 in
    let p = err_from_is_err_and c.from_residual.result c.from_residual.ensures.1 in
    rw (p.1, p.2) (closes_refused m.means m.arithmetic b c.args.closings.now _ (string_bytes c.loop-z.out) c.loop-z.z-index inv.1 c.z-item.result c.loop-z-test.true c.z-item.is
    c.as_slice.result.now c.as_slice.ensures.value (ring_switch_refusal c.in_err-close.field-0.0) met.0)

pub returns : goal.returns
returns g c = λ b h.
    let m = g.L.Level in
    closing_all m.means m.arithmetic b c.args.closings.now _ (string_bytes c.loop-z.out) c.loop-z.z-index (c.loop-z.invariant.1 b h).1 c.loop-z-test.false
