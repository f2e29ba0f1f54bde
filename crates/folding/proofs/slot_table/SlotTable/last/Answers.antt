use Rattle.std.proofs.Common.{◌≡◌, ◌*◌, ◌/◌, ◌^◌, length, sym, ap, ◌∙◌, arith}
use Rattle.multilinear.specs.Lent.{lent}
use Rattle.tensor_algebra.specs.Tensor.{add}
use Rattle.folding.specs.Slots.{term_of}
use Rattle.folding.proofs.Folds.{all_none, all_more, whole_columns}
use Rattle.folding.proofs.Slots.{last_made}
use Rattle.folding.proofs.slot_table.SlotTable.last.Goals as goal

pub loop-c-init : goal.loop-c-init
loop-c-init g c = all_none _ _

pub loop-c-preserved : goal.loop-c-preserved
loop-c-preserved g c =
    let m = g.L.Level in
    let s = c.args.self.now in
    all_more _ _ c.loop-c.c _ _
    (c.add_entry.ensures ∙ ap (λ w. add (lent m.means c.loop-c.rows) (term_of m s w w)) c.last.ensures)
    c.loop-c.invariant

pub returns : goal.returns
returns g c =
    let column = 2 ^ c.args.columns.row_variables in
    let l = length c.args.self.now.values.now in
    let all : c.loop-c.c ≡ l / column = omega (arith, ap (λ n. l / n) c.length.ensures) in
    last_made g.met.L.Level.ring c.args.columns.row_variables c.loop-c.c _ _ _ _ _ c.clear.ensures
    (whole_columns column l c.requires.columns ∙ ap (λ n. n * column) (sym all)) c.loop-c.invariant
