use Rattle.std.proofs.Common.{◌≡◌, ◌++◌, map, List}
use Rattle.std.specs.Iterator.Adapters.{rev_source}
use Rattle.std.specs.Slice.Iter.{iter_rest}
use Rattle.multilinear.specs.Lent.{lent}
use Rattle.equality.proofs.Tabulating.{Tabulating}
use Rattle.equality.proofs.table.equality_table.Given as goal

-- the start value stands in the first place where the loop begins
abbrev pub invariant-loop-x : goal.invariant-loop-x
invariant-loop-x g l =
    let m = g.L.Level in
    (done : List _) × (l.point ≡ iter_rest (rev_source l.x-iterator) ++ done)
    × Tabulating m.arithmetic (lent m.means l.initial.table 0) (map m.means done) l.half (lent m.means l.table)
