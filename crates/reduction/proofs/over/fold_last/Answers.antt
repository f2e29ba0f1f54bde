use Rattle.std.proofs.Common.{◌≡◌, ◌*◌, ◌%◌, ◌^◌, ◌≤◌, map, length, sym, ap, ◌∙◌, arith}
use lib.ListN.{length-map}
use Rattle.multilinear.specs.Lent.{lent}
use Rattle.ring_switch.specs.Opening.{named, kept_rows}
use Rattle.folding.specs.Slots.{slot_last}
use Rattle.folding.proofs.Openings.{last_opened, columns_whole}
use Rattle.reduction.specs.Stretch.{opening_at}
use Rattle.reduction.proofs.Slotted.{made_at}
use Rattle.reduction.proofs.over.fold_last.Goals as goal

pub last-requires-clause-columns : goal.last-requires-clause-columns
last-requires-clause-columns g c =
    let m = g.L.Level in
    let laws = g.met.L.Level.ring in
    let o = opening_at m c.args.opened c.args.point.now in
    let t = lent m.means c.args.packed.now in
    let rows = c.columns-columns.ensures ∙ ap kept_rows (made_at m c.opening_at.result c.args.opened _ c.opening_at.ensures.point c.opening_at.ensures.view) in
    let within : named c.args.opened.view ≤ length (map m.means c.args.point.now) = omega (arith, length-map c.args.point.now m.means, c.requires.fits.len, c.requires.fits.rows) in
    ap (λ r. length c.slot_at.result.values.now % 2 ^ r) rows ∙ columns_whole m laws c.slot_at.result o t c.slot_at.ensures within

pub returns : goal.returns
returns g c =
    let m = g.L.Level in
    let laws = g.met.L.Level.ring in
    let o = opening_at m c.args.opened c.args.point.now in
    let t = lent m.means c.args.packed.now in
    let rows = c.columns-columns.ensures ∙ ap kept_rows (made_at m c.opening_at.result c.args.opened _ c.opening_at.ensures.point c.opening_at.ensures.view) in
    let within : named c.args.opened.view ≤ length (map m.means c.args.point.now) = omega (arith, length-map c.args.point.now m.means, c.requires.fits.len, c.requires.fits.rows) in
    c.last.ensures ∙ ap (slot_last m c.slot_at.result) rows ∙ last_opened m laws c.slot_at.result o t c.slot_at.ensures within
