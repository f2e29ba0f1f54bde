use Rattle.std.proofs.Common.{rules}
use Rattle.tensor.proofs.Folds.{element_made}
use Rattle.tensor.proofs.bit_tensor.BitTensor.equality_element.Goals as goal

pub returns-clause-rows : goal.returns-clause-rows
returns-clause-rows g c = let laws = g.met.L.Level.ring in search (rules, element_made)
