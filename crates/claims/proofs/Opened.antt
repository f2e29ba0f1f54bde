-- The claims of the tensors of an opened table: multilinear values of its bits.
use Rattle.std.proofs.Common.{◌≡◌, ℕ, ◌-◌, ◌<◌, ◌≤◌, not, length, sym, ap, ◌∙◌, ap₂, ⊎_elim, arith}
use Rattle.std.proofs.lemmas.Bool.{cases_lt}
use lib.Pow.{ones_lt}
use Rattle.level.specs.Element.{Element, width, plus}
use Rattle.level.specs.Laws.{Arithmetic, Laws}
use Rattle.multilinear.specs.Equality.{equality}
use Rattle.multilinear.specs.Sums.{where_set}
use Rattle.multilinear.specs.Columns.{starts, ends}
use Rattle.tensor_algebra.specs.Tensor.{Tensor, column}
use Rattle.ring_switch.specs.Opening.{Opening, named, low}
use Rattle.ring_switch.specs.Claims.{incoming, inside, across, successor_claim}
use Rattle.ring_switch.specs.ClaimLaws.{Binary, opened, opened_carry, opened_last, value, value_one_row_on}
use Rattle.ring_switch.proofs.Incoming.{incoming_is_multilinear}
use Rattle.ring_switch.proofs.Successor.{claim_inside, claim_across, successor_is_multilinear}
use Rattle.claims.proofs.Weighing.{by_columns_same}
use Rattle.claims.proofs.ColumnWeights.{not_longer, longer}

-- tables that agree below the width have one claim
module _ {k : ℕ} (A : Arithmetic k) (f g : ℕ → Element k) (same : (v : ℕ) → v < width k → f v ≡ g v) where
  pub incoming_same : (t : Tensor k) → incoming A f t ≡ incoming A g t
  unfolding incoming
  incoming_same t = by_columns_same A f g t same

  inside_same : (q v : ℕ) → v < width k → inside f q v ≡ inside g q v
  unfolding inside
  inside_same q v h = ap₂ (λ x y. plus (where_set (not (starts q v)) x) (where_set (ends q v) y)) (same (v - 1) (omega arith)) (same v h)

  across_same : (v : ℕ) → v < width k → across f v ≡ across g v
  unfolding across
  across_same v h = ap (where_set _) (same (v - 1) (omega arith))

  -- where rows lie inside an element the claim looks at the tensor alone
  pub successor_same : (q : ℕ) (t c l c' l' : Tensor k) → (k < q → c ≡ c') → (k < q → l ≡ l')
      → successor_claim A f q t c l ≡ successor_claim A g q t c' l'
  successor_same q t c l c' l' carried lasting = ⊎_elim
      (λ h. claim_across A f q t c l (longer k q h)
      ∙ ap₂ plus (by_columns_same A _ _ t across_same)
      (ap₂ A.times (same (width k - 1) (ones_lt k)) (ap₂ (λ x y. plus (column x 0) (column y (width k - 1))) (carried h) (lasting h)))
      ∙ sym (claim_across A g q t c' l' (longer k q h)))
      (λ h. let short = not_longer k q h in
      claim_inside A f q t c l short ∙ by_columns_same A _ _ t (inside_same q) ∙ sym (claim_inside A g q t c' l' short))
      (cases_lt k q)

module _ {k : ℕ} {A : Arithmetic k} (laws : Laws A) (o : Opening k) (bits : ℕ → ℕ) (binary : Binary bits) (h : k ≤ length o.point)
    (f : ℕ → Element k) (table : (v : ℕ) → v < width k → f v ≡ equality A (low o) v) where
  -- the incoming claim of the tensor of a table of bits, against the equality table of the low coordinates, is the value of the table
  pub incoming_opened : (t : Tensor k) → t ≡ opened A o bits → incoming A f t ≡ value A o bits
  incoming_opened t e = incoming_same A f _ table t ∙ ap (incoming A (equality A (low o))) e ∙ incoming_is_multilinear laws bits binary o h

  -- the successor claim of the tensor and, where rows are longer than an element, of the carry and the last is the value of the table one row on
  pub successor_opened : named o.view ≤ length o.point → (t c l : Tensor k) → t ≡ opened A o bits
      → (k < named o.view → c ≡ opened_carry A o bits) → (k < named o.view → l ≡ opened_last A o bits)
      → successor_claim A f (named o.view) t c l ≡ value_one_row_on A o bits
  successor_opened g t c l e carried lasting =
      successor_same A f _ table (named o.view) t c l (opened_carry A o bits) (opened_last A o bits) carried lasting
      ∙ ap (λ s. successor_claim A (equality A (low o)) (named o.view) s (opened_carry A o bits) (opened_last A o bits)) e
      ∙ successor_is_multilinear laws bits binary o h g
