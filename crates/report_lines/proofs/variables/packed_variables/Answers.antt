use Rattle.std.proofs.Common.{length, ap, ◌/◌, arith}
use Rattle.report_lines.proofs.Packed.{some_shown, packable, some, packs}
use Rattle.report_lines.proofs.variables.packed_variables.Goals as goal

pub nonzero_div-elements : goal.nonzero_div-elements
nonzero_div-elements g c = omega (arith, c.byte_count.ensures.value, some_shown g.L.Level.log)

pub ilog2-requires : goal.ilog2-requires
ilog2-requires g c = some _ _ (packable _ _ c.in_ok-check_packing.ensures) _ (ap (λ m. length c.args.bits.now / m) c.byte_count.ensures.value)

pub returns-clause-packs : goal.returns-clause-packs
returns-clause-packs g c =
    packs _ _ (packable _ _ c.in_ok-check_packing.ensures) _ _ (ap (λ m. length c.args.bits.now / m) c.byte_count.ensures.value) c.ilog2.ensures.power_le c.ilog2.ensures.next_power_gt
