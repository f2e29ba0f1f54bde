use Rattle.std.proofs.Common.{◌≡◌, ◌∙◌}
use Rattle.multilinear.specs.Lent.{lent}
use Rattle.folding.proofs.Openings.{tensor_opened}
use Rattle.reduction.specs.Stretch.{opening_at}
use Rattle.reduction.proofs.over.fold_tensor.Goals as goal

pub returns : goal.returns
returns g c =
    let m = g.L.Level in
    c.tensor.ensures.rows ∙ tensor_opened m g.met.L.Level.ring _ (opening_at m c.args.opened c.args.point.now) (lent m.means c.args.packed.now) c.slot_at.ensures
