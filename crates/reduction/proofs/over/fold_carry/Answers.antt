use Rattle.std.proofs.Common.{◌≡◌, ◌*◌, ◌%◌, ◌^◌, ◌-◌, ◌≤◌, map, length, sym, ap, ◌∙◌, arith}
use lib.ListN.{length-map}
use Rattle.multilinear.specs.Lent.{lent}
use Rattle.ring_switch.specs.Opening.{named, kept_rows}
use Rattle.folding.specs.Slots.{slot_carry}
use Rattle.folding.proofs.Openings.{carry_opened}
use Rattle.reduction.specs.Stretch.{opening_at}
use Rattle.reduction.proofs.Slotted.{made_at, inner_short}
use Rattle.reduction.proofs.over.fold_carry.Goals as goal

pub split_at_mut-shifted-requires : goal.split_at_mut-shifted-requires
split_at_mut-shifted-requires g c =
    let m = g.L.Level in
    let short = inner_short m g.met.L.Level.ring c.slot_at-slot.result (opening_at m c.args.opened c.args.point.now) (lent m.means c.args.packed.now) c.slot_at-slot.ensures in
    omega (arith, short, c.block_len.ensures, c.requires.shifted, ap (λ n. 2 ^ (n - m.log)) (length-map c.args.point.now m.means ∙ c.requires.fits.len))

pub returns : goal.returns
returns g c =
    let m = g.L.Level in
    let laws = g.met.L.Level.ring in
    let o = opening_at m c.args.opened c.args.point.now in
    let t = lent m.means c.args.packed.now in
    let rows = c.columns-columns.ensures ∙ ap kept_rows (made_at m c.opening_at.result c.args.opened _ c.opening_at.ensures.point c.opening_at.ensures.view) in
    let within : named c.args.opened.view ≤ length (map m.means c.args.point.now) = omega (arith, length-map c.args.point.now m.means, c.requires.fits.len, c.requires.fits.rows) in
    c.carry.ensures.rows ∙ ap (slot_carry m c.slot_at-slot.result) rows ∙ carry_opened m laws c.slot_at-slot.result o t c.slot_at-slot.ensures within
