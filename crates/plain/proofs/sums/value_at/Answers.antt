use Rattle.std.proofs.Common.{◌≡◌, ◌*◌, ◌%◌, ◌^◌, map, length, arith}
use lib.ListN.{length-map}
use Rattle.std.proofs.lemmas.Nat.{one_shl}
use Rattle.multilinear.specs.Equality.{equality}
use Rattle.plain.proofs.Summing.{multilinear_sum, term_is}
use Rattle.plain.proofs.sums.value_at.Goals as goal

pub returns : goal.returns
returns g c f says =
    let m = g.L.Level in
    let p = map m.means c.args.point.now in
    let l = length c.args.point.now in
    let below : 2 ^ l ≡ (1 * 2 ^ l) % 2 ^ 64 = omega (arith, one_shl l 64 c.requires.short) in
    multilinear_sum m.arithmetic f p _ _ (length-map c.args.point.now m.means) c.requires.short
    (c.sum_of.ensures _ (λ i x h e. term_is m.arithmetic _ (m.means e.0) (f i) (equality m.arithmetic p i) e.1.1 (says i e.0 (omega arith) e.1.0)))
