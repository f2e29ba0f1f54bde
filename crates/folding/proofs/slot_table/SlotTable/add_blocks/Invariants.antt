use Rattle.std.proofs.Common.{◌≡◌, length}
use Rattle.multilinear.specs.Lent.{lent}
use Rattle.tensor_algebra.specs.Tensor.{scale_columns}
use Rattle.folding.specs.Folds.{block, with_all}
use Rattle.folding.proofs.slot_table.SlotTable.add_blocks.Given as goal

abbrev pub invariant-loop-b : goal.invariant-loop-b
invariant-loop-b g l =
    let m = g.L.Level in
    lent m.means l.rows
    ≡ with_all (lent m.means l.initial.rows)
    (λ b. scale_columns m.arithmetic (lent m.means l.self.equality.outer.now b) (block (length l.self.equality.inner.now) (lent m.means l.left.left.now) (lent m.means l.self.values.now) b))
    l.b
