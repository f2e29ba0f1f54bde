use Rattle.std.proofs.Common.{◌∙◌, ap}
use Rattle.level.specs.Element.{plus}
use Rattle.tensor.specs.SuccessorTensors.{carry_of, last_of}
use Rattle.closing.proofs.Ends.{successor_none, successor_made}
use Rattle.closing.proofs.sums.successor_rows.Goals as goal

pub returns-in-None : goal.returns-in-None
returns-in-None g c = successor_none g.met.L.Level.ring _ _ _ _ _ (ap carry_of c.in-None.is) (ap last_of c.in-None.is) c.zero.ensures

pub returns-in-Some : goal.returns-in-Some
returns-in-Some g c =
    let A = g.L.Level.arithmetic in
    successor_made _ _ _ _ _ _ _ _ _ _ (ap carry_of c.in-Some.is) (ap last_of c.in-Some.is) c.batch_rows-carry.ensures c.batch_rows-last.ensures
    (c.mul-in-Some.ensures ∙ ap (A.times _) (c.add.ensures ∙ ap (plus _) c.mul.ensures))
