use Rattle.std.proofs.Common.{◌≡◌, length, ap, ◌∙◌, rules}
use mathlib.Core.Path.{fun_ext}
use Rattle.multilinear.specs.Lent.{lent}
use Rattle.tensor_algebra.specs.Tensor.{add, scale_columns}
use Rattle.ring_switch.specs.Claims.{tensor}
use Rattle.folding.proofs.block.add_block.Goals as goal

pub returns : goal.returns
unfolding tensor
returns g c =
    let m = g.L.Level in
    let left = c.args.left.now.left.now in
    let made : lent m.means c.add_scaled_columns.new.self.rows.now
    ≡ add (lent m.means c.args.rows.now) (scale_columns m.arithmetic (m.means c.args.weight) (tensor (length left) (lent m.means left) (lent m.means c.args.right.now))) =
    c.add_scaled_columns.ensures.rows
    ∙ ap (λ x. add (lent m.means c.args.rows.now) (scale_columns m.arithmetic (m.means c.args.weight) x)) (fun_ext c.sum.ensures.rows) in
    search rules
