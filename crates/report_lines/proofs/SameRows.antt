-- Batching weights that agree at each coordinate of an element come to the same.
use Rattle.std.proofs.Common.{◌≡◌, ℕ, ◌-◌, List, [], ◌∷◌, ◌++◌, not, length, Some, None, codes, Option, refl, ap, ap₂}
use Rattle.level.specs.Element.{Element, width, coordinate, plus}
use Rattle.level.specs.Laws.{Arithmetic}
use Rattle.multilinear.specs.Sums.{at_bit, where_set}
use Rattle.multilinear.specs.Columns.{starts, ends}
use Rattle.multilinear.specs.Equality.{Point}
use Rattle.multilinear.proofs.Sums.{sum_same}
use Rattle.tensor_algebra.specs.Tensor.{Tensor, subset_sum, batch_rows}
use Rattle.ring_switch.specs.Opening.{Opening, rest}
use Rattle.ring_switch.specs.Batching.{settled, weight, successor_rows, initial_sum, closing_value}
use Rattle.refusals.specs.Steps.{closing}
use Rattle.element_text.specs.Hex.{element_text}
use Rattle.report_lines.specs.Lines.{line}
use Rattle.report_lines.specs.Batched.{Agree, Batching}
use Rattle.report_lines.specs.Report.{unless, batching_text, closing_text}
use Rattle.report_lines.proofs.Writing.{below_same}

module _ {k : ℕ} (A : Arithmetic k) (f g : ℕ → Element k) (same : Agree f g) where
  same_settled : (e : ℕ → Element k) (i : ℕ) → settled f e i ≡ settled g e i
  unfolding settled subset_sum
  same_settled e i = sum_same (width k) _ _ (λ u h. ap (at_bit (coordinate (e i) u)) (same u h))

  same_rows : (t : Tensor k) → batch_rows A f t ≡ batch_rows A g t
  unfolding batch_rows
  same_rows t = sum_same (width k) _ _ (λ u h. ap (λ x. A.times x (t u)) (same u h))

  pub same_weight : (e : ℕ → Element k) (r : ℕ) (α : Option (Element k)) (i : ℕ) → weight A f e r α i ≡ weight A g e r α i
  unfolding weight
  same_weight e r None i = same_settled e i
  same_weight e r (Some α) i =
      ap₂ (λ x y. plus (plus x (where_set (not (starts r i)) (A.times α y))) (where_set (ends r i) (A.times (A.times α α) x)))
      (same_settled e i) (same_settled e (i - 1))

  same_successor : (α : Element k) (c l : Tensor k) → successor_rows A f α c l ≡ successor_rows A g α c l
  unfolding successor_rows
  same_successor α c l = ap₂ (λ x y. A.times α (plus x (A.times α y))) (same_rows c) (same_rows l)

  same_initial : (α : Option (Element k)) (t c l : Tensor k) → initial_sum A f α t c l ≡ initial_sum A g α t c l
  unfolding initial_sum
  same_initial None t c l = same_rows t
  same_initial (Some α) t c l = ap₂ plus (same_rows t) (same_successor α c l)

  pub same_closing : (slot : Point k) (r : ℕ) (α : Option (Element k)) (z : Point k) → closing_value A f slot r α z ≡ closing_value A g slot r α z
  unfolding closing_value
  same_closing slot r None z = same_rows _
  same_closing slot r (Some α) z = ap₂ plus (same_rows _) (same_successor α _ _)

  module _ (o : Opening k) (α : Option (Element k)) where
    abbrev with : (ℕ → Element k) → Batching k
    with h = record { opening = o; rows = h; challenge = α }

    pub same_batching : (bits : ℕ → ℕ) → batching_text A (with f) bits ≡ batching_text A (with g) bits
    unfolding batching_text
    same_batching bits =
        ap₂ (λ x (t : List ℕ). line (codes "initial") (element_text x) ++ t) (same_initial α _ _ _)
        (below_same _ _ _ (λ i h. ap (λ x. line (codes "weight") (element_text x)) (same_weight _ _ α i)))

    pub same_closings : (zs : List (Point k)) → closing_text A (with f) zs ≡ closing_text A (with g) zs
    unfolding closing_text
    same_closings [] = refl
    same_closings (z ∷ zs) =
        ap₂ (λ x t. unless (closing (length (rest A o)) (length z)) (line (codes "closing") (element_text x) ++ t)) (same_closing _ _ α z) (same_closings zs)
