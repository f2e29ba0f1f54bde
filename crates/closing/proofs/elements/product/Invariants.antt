use Rattle.std.proofs.Common.{◌≡◌, ◌-◌, length}
use Rattle.closing.proofs.Parts.{product_from}
use Rattle.closing.proofs.elements.product.Given as goal

abbrev pub invariant-loop-x : goal.invariant-loop-x
invariant-loop-x g l = let m = g.L.Level in m.means l.product ≡ product_from m.means m.arithmetic l.point (length l.point - length l.yielded)
