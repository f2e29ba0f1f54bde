-- What batching comes to: batched rows as sums over the packed elements, and the closing value as a multilinear value.
use Rattle.std.specs.Prelude.{◌≡◌, ℕ, ◌-◌, ◌^◌, ◌≤◌, not, length, Option}
use Rattle.level.specs.Element.{Element}
use Rattle.level.specs.Laws.{Arithmetic, Laws}
use Rattle.multilinear.specs.Sums.{sum, where_set}
use Rattle.multilinear.specs.Columns.{starts, ends}
use Rattle.multilinear.specs.Equality.{Point, equality, multilinear}
use Rattle.tensor_algebra.specs.Tensor.{subset_sum, batch_rows, equality_element}
use Rattle.ring_switch.specs.Claims.{tensor, carry, last}
use Rattle.ring_switch.specs.Batching.{weight, initial_sum, carry_element, last_element, closing_value}

-- the batched rows of the tensor of a table e and packed elements t: each packed element times the batching weights of the set
-- coordinates of its entry; of the carry, those of the entry before it, column starts left out; of the last, column ends alone
pub record RowsAreBatched : Type 0 where
  pub of_tensor : {k : ℕ} {A : Arithmetic k} → Laws A → (f e t : ℕ → Element k) (n : ℕ)
      → batch_rows A f (tensor n e t) ≡ sum n (λ w. A.times (t w) (subset_sum f (e w)))
  pub of_carry : {k : ℕ} {A : Arithmetic k} → Laws A → (f e t : ℕ → Element k) (r n : ℕ)
      → batch_rows A f (carry r n e t) ≡ sum n (λ w. where_set (not (starts r w)) (A.times (t w) (subset_sum f (e (w - 1)))))
  pub of_last : {k : ℕ} {A : Arithmetic k} → Laws A → (f e t : ℕ → Element k) (r n : ℕ)
      → batch_rows A f (last r n e t) ≡ sum n (λ w. where_set (ends r w) (A.times (t w) (subset_sum f (e w))))

-- the initial sum of the tensors of a table e and packed elements t: each packed element times its weight
abbrev pub InitialSumIsWeighted : Type 0
InitialSumIsWeighted =
    (k : ℕ) (A : Arithmetic k) → Laws A → (f e : ℕ → Element k) (r : ℕ) (α : Option (Element k)) (n : ℕ) (t : ℕ → Element k)
    → initial_sum A f α (tensor n e t) (carry r n e t) (last r n e t) ≡ sum n (λ i. A.times (t i) (weight A f e r α i))

-- the closing elements of a slot and a point are the tensor, the carry and the last of their equality tables
pub record ClosingElementsAreTensors : Type 0 where
  pub equality_is : {k : ℕ} {A : Arithmetic k} → Laws A → (slot z : Point k) → length z ≡ length slot
      → equality_element A slot z ≡ tensor (2 ^ length slot) (equality A slot) (equality A z)
  pub carry_is : {k : ℕ} {A : Arithmetic k} → Laws A → (slot z : Point k) (r : ℕ) → r ≤ length slot → length z ≡ length slot
      → carry_element A r slot z ≡ carry r (2 ^ length slot) (equality A slot) (equality A z)
  pub last_is : {k : ℕ} {A : Arithmetic k} → Laws A → (slot z : Point k) (r : ℕ) → r ≤ length slot → length z ≡ length slot
      → last_element A r slot z ≡ last r (2 ^ length slot) (equality A slot) (equality A z)

-- the closing value at a point is the multilinear value, at that point, of the table of the slot's weights
abbrev pub ClosingIsMultilinear : Type 0
ClosingIsMultilinear =
    (k : ℕ) (A : Arithmetic k) → Laws A → (f : ℕ → Element k) (slot : Point k) (r : ℕ) → r ≤ length slot → (α : Option (Element k))
    → (z : Point k) → length z ≡ length slot → closing_value A f slot r α z ≡ multilinear A (weight A f (equality A slot) r α) z
