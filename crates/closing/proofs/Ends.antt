-- Both ends of the sumcheck from batched rows.
use Rattle.std.proofs.Common.{◌≡◌, ℕ, ◌<◌, ◌≤◌, List, map, length, true, false, is_some, Some, None, Option, ltb, sym, refl, ap, ◌∙◌, ap₂, ⊎_elim, arith}
use Rattle.std.specs.Option.{option_map}
use Rattle.std.proofs.lemmas.Bool.{ltb-true, cases_Bool}
use mathlib.Core.Path.{fun_ext}
use lib.ListN.{length-map}
use Rattle.level.specs.declared.level.Level.{Ghosts}
use Rattle.level.specs.Element.{Element, width, plus, zeros}
use Rattle.level.specs.Laws.{Arithmetic, Laws}
use Rattle.level.proofs.Elements.{plus_zeros}
use Rattle.level.proofs.Ring.{times_zeros}
use Rattle.multilinear.specs.Cells.{packed}
use Rattle.multilinear.specs.Equality.{Point, multilinear}
use Rattle.multilinear.specs.Sums.{sum}
use Rattle.multilinear.proofs.Sums.{sum_none}
use Rattle.tensor_algebra.specs.Tensor.{Tensor, nothing, batch_rows, equality_element}
use Rattle.ring_switch.specs.Opening.{View, named, kept, kept_rows}
use Rattle.ring_switch.specs.Claims.{tensor, carry, last}
use Rattle.ring_switch.specs.ClaimLaws.{opened, opened_carry, opened_last}
use Rattle.ring_switch.specs.Slots.{slot_count, slot_table, in_slot}
use Rattle.ring_switch.specs.Batching.{successor_rows, initial_sum, carry_element, last_element, closing_value}
use Rattle.ring_switch.proofs.Initial.{initial_weighted}
use Rattle.ring_switch.proofs.ClosingElements.{closing_multilinear}
use Rattle.ring_switch.proofs.SlotTensors.{slot, stepped_slot}
use Rattle.opening.specs.Openings.{opening_of}
use Rattle.opening.specs.Batches.{rows_of, weights_of}
use Rattle.opening.specs.declared.batch.BitRingSwitchBatch.{BitRingSwitchBatch}
use Rattle.closing.specs.Ends.{slot_of, initial_sum_of, closing_value_of}

module _ {k : ℕ} (A : Arithmetic k) (f : ℕ → Element k) where
  pub successor_made : (α x y r : Element k) (c l c' l' : Tensor k) → c ≡ c' → l ≡ l' → x ≡ batch_rows A f c' → y ≡ batch_rows A f l'
      → r ≡ A.times α (plus x (A.times α y)) → r ≡ successor_rows A f α c l
  unfolding successor_rows
  successor_made α x y r c l c' l' carried lasting e₁ e₂ made =
      made ∙ ap₂ (λ p q. A.times α (plus p (A.times α q))) (e₁ ∙ ap (batch_rows A f) (sym carried)) (e₂ ∙ ap (batch_rows A f) (sym lasting))

  -- the initial sum, without a challenge and under one
  pub initial_alone : (α : Option (Element k)) (r : Element k) (t c l : Tensor k) → α ≡ None → r ≡ batch_rows A f t → r ≡ initial_sum A f α t c l
  unfolding initial_sum
  initial_alone α r t c l none e = e ∙ ap (λ o. initial_sum A f o t c l) (sym none)

  pub initial_challenged : (α : Option (Element k)) (a x r : Element k) (t c l : Tensor k) → α ≡ Some a → x ≡ batch_rows A f t
      → r ≡ plus x (successor_rows A f a c l) → r ≡ initial_sum A f α t c l
  unfolding initial_sum
  initial_challenged α a x r t c l some e made =
      made ∙ ap (λ y. plus y (successor_rows A f a c l)) e ∙ ap (λ o. initial_sum A f o t c l) (sym some)

  -- the closing value, without a challenge and under one
  pub closing_alone : (slot z : Point k) (r : ℕ) (α : Option (Element k)) (v : Element k) → α ≡ None → v ≡ batch_rows A f (equality_element A slot z)
      → v ≡ closing_value A f slot r α z
  unfolding closing_value
  closing_alone slot z r α v none e = e ∙ ap (λ o. closing_value A f slot r o z) (sym none)

  pub closing_challenged : (slot z : Point k) (r : ℕ) (α : Option (Element k)) (a x y v : Element k) → α ≡ Some a
      → x ≡ batch_rows A f (equality_element A slot z)
      → y ≡ successor_rows A f a (carry_element A r slot z) (last_element A r slot z)
      → v ≡ plus x y → v ≡ closing_value A f slot r α z
  unfolding closing_value
  closing_challenged slot z r α a x y v some e₁ e₂ made = made ∙ ap₂ plus e₁ e₂ ∙ ap (λ o. closing_value A f slot r o z) (sym some)

module _ {k : ℕ} {A : Arithmetic k} (laws : Laws A) (f : ℕ → Element k) where
  -- zero tensors add nothing
  batch_nothing : batch_rows A f nothing ≡ zeros k
  unfolding batch_rows nothing
  batch_nothing = sum_none (width k) _ (λ u _. times_zeros laws (f u))

  pub successor_none : (α r : Element k) (c l : Tensor k) → c ≡ nothing → l ≡ nothing → r ≡ zeros k → r ≡ successor_rows A f α c l
  unfolding successor_rows
  successor_none α r c l carried lasting made =
      let none : (t : Tensor k) → t ≡ nothing → batch_rows A f t ≡ zeros k = λ t e. ap (batch_rows A f) e ∙ batch_nothing in
      made ∙ sym (ap₂ (λ p q. A.times α (plus p (A.times α q))) (none c carried) (none l lasting)
      ∙ ap (λ q. A.times α (plus (zeros k) q)) (times_zeros laws α) ∙ ap (A.times α) (plus_zeros _) ∙ times_zeros laws α)

-- where rows are longer than an element
pub sends : (k : ℕ) (view : View) → is_some (kept k view) ≡ true → k < named view
unfolding kept
sends k None e = absurd (cc)
sends k (Some q) e = ⊎_elim (λ l. ltb-true k q l) (λ s. absurd (no s)) (cases_Bool (ltb k q))
  where
    no : ltb k q ≡ false → ⊥
    no s = cc

-- without a challenge the initial sum looks at the tensor alone
pub initial_same : {k : ℕ} (A : Arithmetic k) (f : ℕ → Element k) (α : Option (Element k)) (t c l t' c' l' : Tensor k) → t ≡ t'
    → (is_some α ≡ true → c ≡ c') → (is_some α ≡ true → l ≡ l') → initial_sum A f α t c l ≡ initial_sum A f α t' c' l'
unfolding initial_sum
initial_same A f None t c l t' c' l' e carried lasting = ap (batch_rows A f) e
initial_same A f (Some a) t c l t' c' l' e carried lasting =
    ap₂ (λ x y. plus (batch_rows A f x) y) e (ap₂ (successor_rows A f a) (carried refl) (lasting refl))

is_some_map : {X Y : Type 0} (g : X → Y) (o : Option X) → is_some (option_map g o) ≡ is_some o
is_some_map g None = refl
is_some_map g (Some x) = refl

module _ {X : Type 0} (L : Ghosts X) (laws : Laws L.arithmetic) (b : BitRingSwitchBatch X L) where
  -- the slot has the row coordinates that are kept among its own
  pub rows_within : kept_rows (opening_of L b.reduction) ≤ length (slot_of L b)
  rows_within =
      let o = opening_of L b.reduction in
      (stepped_slot laws o (omega (arith, b.reduction.rows, length-map b.reduction.point.now L.means))).row_coordinates

  -- the closing value at a lent point, as long as the slot is, is the multilinear value there of the slot's weights
  pub closing_multilinear_of : (zs : List X) (r : Element L.log) → length zs ≡ length (slot_of L b) → r ≡ closing_value_of L b (map L.means zs)
      → r ≡ multilinear L.arithmetic (weights_of L b) (map L.means zs)
  closing_multilinear_of zs r long e =
      e ∙ closing_multilinear laws (rows_of L b) (slot_of L b) (kept_rows (opening_of L b.reduction)) rows_within (option_map L.means b.alpha)
      (map L.means zs) (length-map zs L.means ∙ long)

  -- a challenge is given only where rows are longer than an element
  challenge_sends : is_some (option_map L.means b.alpha) ≡ true → L.log < named b.reduction.view
  challenge_sends e = sends L.log b.reduction.view (sym b.challenged ∙ sym (is_some_map L.means b.alpha) ∙ e)

  -- The initial sum of the tensor of the slot's equality table and n packed elements t and, where rows are longer than an element, of their
  -- carry and their last is the sum of each packed element times its weight.
  pub initial_weighted_of : (n : ℕ) (t : ℕ → Element L.log) (x c l : Tensor L.log)
      → x ≡ tensor n (slot_table L.arithmetic (opening_of L b.reduction)) t
      → (L.log < named b.reduction.view
      → c ≡ carry (kept_rows (opening_of L b.reduction)) n (slot_table L.arithmetic (opening_of L b.reduction)) t)
      → (L.log < named b.reduction.view
      → l ≡ last (kept_rows (opening_of L b.reduction)) n (slot_table L.arithmetic (opening_of L b.reduction)) t)
      → initial_sum_of L b x c l ≡ sum n (λ i. L.arithmetic.times (t i) (weights_of L b i))
  initial_weighted_of n t x c l e carried lasting =
      let o = opening_of L b.reduction in
      let table = slot_table L.arithmetic o in
      initial_same L.arithmetic (rows_of L b) (option_map L.means b.alpha) x c l (tensor n table t) (carry (kept_rows o) n table t) (last (kept_rows o) n table t)
      e (λ s. carried (challenge_sends s)) (λ s. lasting (challenge_sends s))
      ∙ initial_weighted laws (rows_of L b) table (kept_rows o) (option_map L.means b.alpha) n t

  -- the same for the tensors of an opened table of bits, which the slot has whole: its own packed elements are summed
  pub initial_opened : (bits : ℕ → ℕ) (x c l : Tensor L.log) → x ≡ opened L.arithmetic (opening_of L b.reduction) bits
      → (L.log < named b.reduction.view → c ≡ opened_carry L.arithmetic (opening_of L b.reduction) bits)
      → (L.log < named b.reduction.view → l ≡ opened_last L.arithmetic (opening_of L b.reduction) bits)
      → initial_sum_of L b x c l
      ≡ sum (slot_count L.arithmetic (opening_of L b.reduction))
      (λ i. L.arithmetic.times (in_slot L.arithmetic (opening_of L b.reduction) (packed L.log bits) i) (weights_of L b i))
  initial_opened bits x c l e carried lasting =
      let A = L.arithmetic in
      let o = opening_of L b.reduction in
      let t = packed L.log bits in
      let stepped = stepped_slot laws o (omega (arith, b.reduction.rows, length-map b.reduction.point.now L.means)) in
      initial_weighted_of (slot_count A o) (in_slot A o t) x c l (e ∙ fun_ext ((slot laws o).whole_tensor t))
      (λ s. carried s ∙ fun_ext (stepped.whole_carry t)) (λ s. lasting s ∙ fun_ext (stepped.whole_last t))
