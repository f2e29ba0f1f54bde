use Rattle.std.proofs.Common.{◌+◌, ◌*◌, ◌∙◌, arith}
use Rattle.coordinates.proofs.Numbers.{few}
use Rattle.multilinear.specs.Cells.{cell}
use Rattle.plain.proofs.Packing.{cell_binary, binary_begins, binary_more, digits_fit, packed_ends}
use Rattle.plain.proofs.cells.packed_element.Goals as goal

pub loop-v-init : goal.loop-v-init
loop-v-init g c = binary_begins _

pub with_coordinate-coordinates-requires : goal.with_coordinate-coordinates-requires
with_coordinate-coordinates-requires g c = (
  few g.L.Level.log c.loop-v.v c.requires.0 (omega (arith, c.width-d.ensures)),
  (
    digits_fit _ _ _ c.loop-v.invariant,
    omega (arith, c.from.ensures, c.cell.ensures, cell_binary c.args.bits.now (c.args.w * c.width-d.result + c.loop-v.v)),
  ),
)

pub loop-v-preserved : goal.loop-v-preserved
loop-v-preserved g c =
    binary_more _ c.loop-v.v _ _ _ (cell_binary _ _) c.loop-v.invariant (c.from.ensures ∙ c.cell.ensures) c.with_coordinate-coordinates.ensures

pub returns : goal.returns
returns g c =
    packed_ends g.L.Level.log (cell c.args.bits.now) c.args.w _ _ _ _ c.width-d.ensures c.loop-v.auto.v-end c.loop-v-test.false
    c.loop-v.invariant c.from_coordinates.ensures
