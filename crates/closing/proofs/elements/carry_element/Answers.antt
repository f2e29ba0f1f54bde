use Rattle.std.proofs.Common.{◌≡◌, map, rules}
use Rattle.multilinear.specs.Lent.{lent}
use Rattle.ring_switch.specs.Batching.{carry_element}
use Rattle.closing.proofs.Parts.{carry_made}
use Rattle.closing.proofs.elements.carry_element.Goals as goal

pub returns-clause-rows : goal.returns-clause-rows
returns-clause-rows g c =
    let m = g.L.Level.means in
    let x = c.rows_apart.ensures in
    let z = c.rows_apart-2.ensures in
    let made : lent m c.mul_equality_factors.new.self.rows.now ≡ carry_element g.L.Level.arithmetic c.args.r (map m c.args.slot.now) (map m c.args.z.now) =
    carry_made m g.L.Level.arithmetic c.args.r _ _ _ _ _ _ c.requires.points x.before x.rows z.before z.rows _ _
    c.successor_element.ensures.rows c.mul_equality_factors.ensures.rows in
    search (rules, made)
