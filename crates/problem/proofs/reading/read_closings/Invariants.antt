use Rattle.std.proofs.Common.{map, take, vec_items}
use Rattle.problem.specs.Reading.{EachPoint}
use Rattle.problem.proofs.reading.read_closings.Given as goal

abbrev pub invariant-loop-text : goal.invariant-loop-text
invariant-loop-text g l = EachPoint (take l.text-index (map (λ x. x.now) l.texts)) (map (λ v. map g.L.Level.means (vec_items v)) (vec_items l.closings))
