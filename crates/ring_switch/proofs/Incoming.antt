-- The incoming claim.
use Rattle.std.proofs.Common.{ℕ, ◌+◌, ◌*◌, ◌≤◌, length, sym, ap, ◌∙◌}
use Rattle.level.specs.Element.{width}
use Rattle.level.specs.Laws.{Arithmetic, Laws}
use Rattle.multilinear.specs.Sums.{sum, at_bit}
use Rattle.multilinear.specs.Equality.{equality}
use Rattle.multilinear.proofs.Sums.{sum_same, sum_rows}
use Rattle.ring_switch.specs.Opening.{Opening, low}
use Rattle.ring_switch.specs.Claims.{incoming}
use Rattle.ring_switch.specs.Slots.{packed_count, table}
use Rattle.ring_switch.specs.ClaimLaws.{Binary, IncomingIsMultilinear}
use Rattle.ring_switch.proofs.Columns.{cell_count, cell_entry, multilinear_bits, weighed_columns}

pub incoming_is_multilinear : {k : ℕ} {A : Arithmetic k} → Laws A → (bits : ℕ → ℕ) → Binary bits → (o : Opening k) → k ≤ length o.point
    → IncomingIsMultilinear A o bits
unfolding incoming
incoming_is_multilinear {k} {A} laws bits binary o h =
    weighed_columns laws bits binary (packed_count o) (table A o) (equality A (low o))
    ∙ sum_same (packed_count o) _ _ (λ w _. sum_same (width k) _ _ (λ v l. ap (at_bit (bits (w * width k + v))) (sym (cell_entry laws o h w v l))))
    ∙ sym (sum_rows (packed_count o) (width k) (λ c. at_bit (bits c) (equality A o.point c)))
    ∙ ap (λ n. sum n (λ c. at_bit (bits c) (equality A o.point c))) (sym (cell_count o h)) ∙ sym (multilinear_bits laws bits o.point)
