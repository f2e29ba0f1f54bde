-- A closing point that is not refused has a coordinate for each of the slot's, and fewer than 64 of them.
use Rattle.std.proofs.Common.{◌≡◌, ℕ, ◌<◌, eqb, length, None, arith}
use Rattle.std.proofs.lemmas.Bool.{eqb-true}
use Rattle.level.specs.Laws.{Arithmetic, Laws}
use Rattle.ring_switch.specs.Opening.{Opening, rest}
use Rattle.ring_switch.proofs.SlotTensors.{slot}
use Rattle.refusals.specs.Steps.{closing}
use Rattle.report_lines.proofs.Passed.{met}

pub as_wide : (expected actual : ℕ) → None ≡ closing expected actual → actual ≡ expected
as_wide expected actual e = eqb-true actual expected (met (eqb actual expected) _ e)

pub few_coordinates : {k : ℕ} {A : Arithmetic k} → Laws A → (o : Opening k) → length o.point < 64 → length (rest A o) < 64
few_coordinates laws o h = omega (arith, (slot laws o).coordinates, h)
