use Rattle.std.proofs.Common.{◌≡◌, ◌+◌, ◌-◌, ◌*◌, ◌^◌, ◌≤◌, length, ap, ◌∙◌, arith}
use Rattle.reduction.proofs.Fitting.{elements_fit}
use Rattle.reduction.proofs.answers.weights.Goals as goal

pub part_at-requires : goal.part_at-requires
part_at-requires g c =
    let n = ap length c.opening_at-reduction.ensures.point ∙ c.point_in.ensures.len in
    let e : c.slot_entries.result ≤ 2 ^ (c.args.opened.variables - g.L.Level.log) = rw (← n) c.slot_entries.ensures.within in
    omega (arith, e, elements_fit g.L.Level.log c.args.layout.variables c.args.opened.variables c.requires.stands.within, c.requires.room)
