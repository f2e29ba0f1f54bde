use Rattle.std.proofs.Common.{◌∙◌, ap, ap₂}
use Rattle.level.specs.Element.{plus}
use Rattle.tensor.specs.SuccessorTensors.{carry_of, last_of}
use Rattle.claims.proofs.ColumnWeights.{rippled_none, rippled_made}
use Rattle.claims.proofs.successor.rippled.Goals as goal

pub returns-in-None : goal.returns-in-None
returns-in-None g c = rippled_none g.met.L.Level.ring _ _ _ _ _ (ap carry_of c.in-None.is) (ap last_of c.in-None.is) c.zero.ensures

pub returns-in-Some : goal.returns-in-Some
returns-in-Some g c =
    rippled_made g.L.Level.means g.L.Level.arithmetic c.args.eq_low.elements.now _ _ _ _ _ _ _ c.args.eq_low.sized c.index-eq_low-top.is
    (ap carry_of c.in-Some.is) (ap last_of c.in-Some.is) (c.add-settling.ensures ∙ ap₂ plus c.column.ensures c.column-in-Some.ensures) (cc)
