use Rattle.std.proofs.Common.{◌≡◌}
use Rattle.multilinear.specs.Lent.{lent}
use Rattle.tensor.proofs.ColumnTurns.{rows_added}
use Rattle.tensor.proofs.bit_tensor.BitTensor.add_scaled_columns.Given as goal

abbrev pub invariant-loop-u : goal.invariant-loop-u
invariant-loop-u g l =
    let m = g.L.Level in
    let first = l.initial.self.rows in
    record {
      same : l.self.rows.ghost_name ≡ first.ghost_name;
      added : lent m.means l.self.rows.now ≡ rows_added m.means m.arithmetic (m.means l.a) (lent m.means first.now) l.other.elements.now l.u;
    }
