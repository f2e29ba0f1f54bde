use Rattle.std.proofs.Common.{rules}
use Rattle.tensor.proofs.Turns.{one_made}
use Rattle.tensor.proofs.bit_tensor.BitTensor.set_one.Goals as goal

pub returns-clause-rows : goal.returns-clause-rows
returns-clause-rows g c = search (rules, one_made)
