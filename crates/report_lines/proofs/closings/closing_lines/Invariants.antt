use Rattle.std.proofs.Common.{◌≡◌, ◌++◌, map, drop, vec_items, string_bytes}
use Rattle.std.specs.Fn.{AlwaysReturns}
use Rattle.report_lines.specs.Batched.{Batching}
use Rattle.report_lines.specs.Closings.{Closes}
use Rattle.report_lines.specs.Report.{closing_text}
use Rattle.report_lines.proofs.closings.closing_lines.Given as goal

abbrev pub invariant-loop-z : goal.invariant-loop-z
invariant-loop-z g l =
    let m = g.L.Level in
    let zs = map (λ v. map m.means (vec_items v)) l.closings in
    goal.F-IsAlwaysCallable g l.close
    × ((b : Batching m.log) → AlwaysReturns g.F.FnMut (λ a r. Closes m.means m.arithmetic b a.0.now r) l.fn.close
    → AlwaysReturns g.F.FnMut (λ a r. Closes m.means m.arithmetic b a.0.now r) l.close
    × (string_bytes l.initial.out ++ closing_text m.arithmetic b zs ≡ string_bytes l.out ++ closing_text m.arithmetic b (drop l.z-index zs)))
