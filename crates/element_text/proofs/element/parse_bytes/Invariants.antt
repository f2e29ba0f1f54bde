use Rattle.element_text.proofs.Parsing.{ParsedIn}
use Rattle.element_text.proofs.element.parse_bytes.Given as goal

abbrev pub invariant-loop-j : goal.invariant-loop-j
invariant-loop-j l = ParsedIn l.count l.j l.text l.byte-items
