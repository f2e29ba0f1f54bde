use Rattle.std.proofs.Common.{◌≡◌, length}
use Rattle.explain_input.specs.Keys.{lines, texts}
use Rattle.explain_input.proofs.lines.TextsIterator.next.Given as goal

abbrev pub invariant-loop-line : goal.invariant-loop-line
invariant-loop-line l = (l.self.key ≡ l.initial.self.key) × (texts l.self.key (lines l.self.lines.0.now) ≡ texts l.initial.self.key (lines l.initial.self.lines.0.now))

abbrev pub decreases-loop-line : goal.decreases-loop-line
decreases-loop-line l = length (lines l.self.lines.0.now)
