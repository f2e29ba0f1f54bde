use Rattle.std.proofs.Common.{◌-◌, ap, ◌∙◌}
use lib.Bits.{bit_and, and_mask}
use Rattle.std.proofs.lemmas.Nat.{one_shl}
use Rattle.equality.proofs.factored.split_index.Goals as goal

pub returns-clause-place : goal.returns-clause-place
returns-clause-place c =
    let i = c.args.index in
    let log = c.args.log_block in
    ap (λ n. bit_and i (n - 1)) (one_shl log 64 c.requires) ∙ and_mask i log
