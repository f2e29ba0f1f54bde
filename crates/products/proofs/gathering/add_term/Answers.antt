use Rattle.std.proofs.Common.{take, arith}
use Rattle.std.proofs.lemmas.List.{length-take}
use Rattle.products.proofs.Adding.{byte_small, adding_more, adding_ends}
use Rattle.products.proofs.gathering.add_term.Goals as goal

pub loop-j-preserved : goal.loop-j-preserved
loop-j-preserved g c =
    let values = c.to_bytes-values.result in
    let small = byte_small (g.L.Level.means c.args.a) values c.num_bytes.result c.loop-j.j c.to_bytes-values.ensures c.loop-j-test.true in
    adding_more (take c.num_bytes.result values) _ g.L.Level.means c.loop-j.j _ c.loop-j.buckets c.place-at.result _ _ small c.place-at.ensures
    (omega (arith, small, length-take c.num_bytes.result values)) c.index-buckets-at.is c.add.ensures c.loop-j.invariant

pub returns : goal.returns
returns g c =
    adding_ends (g.L.Level.means c.args.a) _ c.to_bytes-values.result c.loop-j.j _ _ _ c.requires.narrow c.to_bytes-values.ensures
    c.num_bytes.ensures c.loop-j-test.false c.loop-j.invariant
