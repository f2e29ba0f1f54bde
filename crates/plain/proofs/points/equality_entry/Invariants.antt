use Rattle.plain.proofs.Entry.{Factored}
use Rattle.plain.proofs.points.equality_entry.Given as goal

abbrev pub invariant-loop-x : goal.invariant-loop-x
invariant-loop-x g l = Factored g.L.Level.arithmetic g.L.Level.means l.point l.x-iterator.iter.rest.now l.index (g.L.Level.means l.product) l.rest
