use Rattle.multilinear.specs.Lent.{lent}
use Rattle.products.proofs.ReadingBytes.{rows_summed, buckets_halved}
use Rattle.products.proofs.factors.sum_terms.Goals as goal

pub returns-clause-rows : goal.returns-clause-rows
returns-clause-rows g c =
    let m = g.L.Level.means in
    rows_summed _ _ _ (lent m c.add_exterior_products.new.self.buckets.now) c.add_exterior_products.ensures.bucketed (lent m c.tensor.new.rows) c.tensor.ensures.rows

pub returns-clause-buckets : goal.returns-clause-buckets
returns-clause-buckets g c =
    let m = g.L.Level.means in
    buckets_halved _ _ _ (lent m c.add_exterior_products.new.self.buckets.now) c.add_exterior_products.ensures.bucketed (lent m c.tensor.new.self.buckets.now) c.tensor.ensures.halved
