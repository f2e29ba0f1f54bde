use Rattle.std.proofs.Common.{◌≡◌, ℕ}
use Rattle.level.specs.Element.{Element}
use Rattle.multilinear.specs.Sums.{sum}
use Rattle.plain.specs.Terms.{Gives}
use Rattle.plain.proofs.sums.sum_of.Given as goal

abbrev pub invariant-loop-i : goal.invariant-loop-i
invariant-loop-i g l =
    let m = g.L.Level in
    (f : ℕ → Element m.log) → Gives m.means l.count (λ j x. goal.F-post g l.term j x) f → m.means l.sum ≡ sum l.i f
