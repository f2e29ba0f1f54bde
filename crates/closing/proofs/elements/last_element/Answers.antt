use Rattle.std.proofs.Common.{◌≡◌, map, ◌∙◌, ap₂, rules}
use Rattle.multilinear.specs.Lent.{lent}
use Rattle.tensor_algebra.specs.Tensor.{exterior, add}
use Rattle.ring_switch.specs.Batching.{last_element}
use Rattle.closing.proofs.Parts.{last_made}
use Rattle.closing.proofs.elements.last_element.Goals as goal

pub returns-clause-rows : goal.returns-clause-rows
returns-clause-rows g c =
    let m = g.L.Level.means in
    let x = c.rows_apart.ensures in
    let z = c.rows_apart-2.ensures in
    let made : lent m c.mul_equality_factors.new.self.rows.now ≡ last_element g.L.Level.arithmetic c.args.r (map m c.args.slot.now) (map m c.args.z.now) =
    last_made m g.L.Level.arithmetic c.args.r _ _ _ _ _ _ c.requires.points x.before x.rows z.before z.rows _ _ _
    c.clear.ensures.rows (c.add_exterior_product.ensures.rows ∙ ap₂ (λ a b. add (lent m c.clear.new.self.rows.now) (exterior a b)) c.product.ensures c.product-2.ensures)
    c.mul_equality_factors.ensures.rows in
    search (rules, made)
