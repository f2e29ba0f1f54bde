use Rattle.std.proofs.Common.{length, arith}
use Rattle.equality.proofs.Factoring.{log_of_power}
use Rattle.equality.proofs.factored.FactoredEquality.new.Goals as goal

pub invariant_of-result : goal.invariant_of-result
invariant_of-result g c =
    let log = log_of_power (length c.args.inner.now) c.requires.0 c.requires.1 (omega arith) in record { block = log.1; few = log.0 }
