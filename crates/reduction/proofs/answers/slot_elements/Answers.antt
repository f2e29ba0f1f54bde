use Rattle.std.proofs.Common.{◌≡◌, ◌+◌, ◌-◌, ◌*◌, ◌^◌, ◌≤◌, map, length, ap, ◌∙◌, arith}
use lib.ListN.{length-map}
use Rattle.reduction.proofs.Fitting.{elements_fit}
use Rattle.reduction.proofs.answers.slot_elements.Goals as goal

pub part_at-requires : goal.part_at-requires
part_at-requires g c =
    let m = g.L.Level in
    let k = m.log in
    let n = length-map c.opening_at-reduction.result.point.now m.means ∙ ap length c.opening_at-reduction.ensures.point ∙ c.point_in.ensures.len in
    let e : c.slot_start-start.result + c.slot_entries.result ≤ 2 ^ (c.args.opened.variables - k) = rw (c.slot_entries.ensures.count, ← n) c.slot_start-start.ensures.within in
    omega (arith, e, elements_fit k c.args.layout.variables c.args.opened.variables c.requires.stands.within, c.requires.room)
