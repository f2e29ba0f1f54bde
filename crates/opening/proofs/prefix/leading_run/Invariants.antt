use Rattle.std.proofs.Common.{◌≡◌, map}
use Rattle.opening.proofs.Prefixes.{SoFar}
use Rattle.opening.proofs.prefix.leading_run.Given as goal

abbrev pub invariant-loop-x : goal.invariant-loop-x
invariant-loop-x g l =
    let m = g.L.Level in
    (l.count ≡ l.x-index) × SoFar m.arithmetic (map m.means l.point) l.count l.address
