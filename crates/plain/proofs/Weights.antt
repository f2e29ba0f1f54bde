-- The weight of a slot's entry from the batching weights that settle there.
use Rattle.std.proofs.Common.{◌≡◌, ℕ, ◌-◌, Some, ap, ◌∙◌, ap₂}
use Rattle.level.specs.Element.{Element}
use Rattle.level.specs.Laws.{Arithmetic}
use Rattle.ring_switch.specs.Batching.{settled, weight}
use Rattle.plain.specs.Batches.{carried_weight}

pub weight_carried : {k : ℕ} (A : Arithmetic k) (f e : ℕ → Element k) (r : ℕ) (α : Element k) (i j : ℕ) (s t w : Element k)
    → j ≡ i - 1 → s ≡ settled f e i → t ≡ settled f e j → w ≡ carried_weight A r α s t i → w ≡ weight A f e r (Some α) i
unfolding weight
weight_carried A f e r α i j s t w step here before made =
    made ∙ ap₂ (λ x y. carried_weight A r α x y i) here (before ∙ ap (settled f e) step)
