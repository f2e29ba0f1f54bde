use Rattle.std.proofs.Common.{arith}
use Rattle.refusals.specs.Steps.{told}
use Rattle.packing.proofs.ElementsWritten.{levels_packed}
use Rattle.packing.proofs.pack.Goals as goal

pub pack_elements-requires-clause-level : goal.pack_elements-requires-clause-level
pack_elements-requires-clause-level g c =
    let level = levels_packed (told g.L.Level.log) _ c.in_ok-check_packing.ensures in
    (omega (arith, level), omega (arith, level))
