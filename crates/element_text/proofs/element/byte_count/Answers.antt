use Rattle.std.proofs.Common.{◌≡◌, ◌-◌, ◌≤◌, min, sym, arith, pow_mono}
use Rattle.std.proofs.lemmas.Nat.{one_shl}
use Rattle.element_text.proofs.Shown.{shown_power}
use Rattle.element_text.proofs.element.byte_count.Goals as goal

pub returns-clause-value : goal.returns-clause-value
returns-clause-value g c =
    let e : c.clamp.result - 3 ≡ min g.L.Level.log 7 - 3 = omega (arith, c.clamp.ensures, c.log_width.ensures) in
    rw (one_shl (c.clamp.result - 3) 64 (omega (arith, c.clamp.ensures)), e) (sym (shown_power g.L.Level.log))

pub returns-clause-bound : goal.returns-clause-bound
returns-clause-bound g c =
    let few : c.clamp.result - 3 ≤ 4 = omega (arith, c.clamp.ensures) in
    rw (one_shl (c.clamp.result - 3) 64 (omega arith)) (pow_mono few)
