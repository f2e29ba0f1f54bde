use Rattle.std.proofs.Common.{◌≡◌, ◌*◌, ◌%◌, ◌^◌, arith}
use lib.Count.{count_trailing_zeros}
use Rattle.std.proofs.lemmas.Nat.{one_shl}
use Rattle.tensor_algebra.proofs.LowestBit.{lowest_below}
use Rattle.basis.proofs.CompletedTables.{lowest_le}
use Rattle.basis.proofs.coordinate_sums.lowest.Goals as goal

pub returns-clause-within : goal.returns-clause-within
returns-clause-within c =
    let s = c.args.subset in
    let t = count_trailing_zeros 64 s in
    let power : (1 * 2 ^ t) % 2 ^ 64 ≡ 2 ^ t = one_shl t 64 (lowest_below 64 64 s c.requires.0 (omega arith) (omega arith)) in
    omega (arith, lowest_le 64 s c.requires.0 (omega arith))
