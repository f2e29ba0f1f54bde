use Rattle.std.proofs.Common.{◌/◌, ◌%◌, ◌^◌, arith}
use native.Mathlib.Nat.{zero-div}
use Rattle.std.proofs.lemmas.List.{get_or_past}
use Rattle.multilinear.specs.Cells.{cell}
use Rattle.plain.proofs.cells.cell.Goals as goal

pub returns : goal.returns
unfolding cell
returns c =
    let at = c.args.c in
    grind (arith, get_or_past c.args.bits.now (at / 8) 0, zero-div (2 ^ (at % 8)))
