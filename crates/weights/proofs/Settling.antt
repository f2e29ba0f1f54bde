-- Settled weights written block by block.
use Rattle.std.proofs.Common.{◌≡◌, ℕ, ◌+◌, ◌-◌, ◌*◌, ◌/◌, ◌%◌, ◌<◌, ◌≤◌, List, length, sym, ap, ◌∙◌, ap₂, ⊎_elim, suc-mul, add-one, arith}
use mathlib.Core.Path.{fun_ext}
use borrow.Rule.Slice.PartMut.{put_mid}
use lib.Arith.{digits_div, digits_mod}
use Rattle.std.proofs.lemmas.Bool.{cases_lt}
use Rattle.level.specs.declared.level.Level.{Ghosts}
use Rattle.level.specs.Element.{Element}
use Rattle.level.specs.Laws.{Laws}
use Rattle.multilinear.specs.Lent.{lent}
use Rattle.multilinear.proofs.Places.{before_part, in_part}
use Rattle.tensor_algebra.specs.Tensor.{subset_sum}
use Rattle.tensor_algebra.specs.Subsets.{basis}
use Rattle.tensor_algebra.proofs.SubsetSums.{subset_times}
use Rattle.basis.specs.Tables.{Tabulated, looked_up, scaled_weights}
use Rattle.basis.proofs.LookedUpSums.{looked_up_sums}
use Rattle.equality.specs.Tables.{factored}
use Rattle.equality.specs.declared.factored.FactoredEquality.{FactoredEquality}
use Rattle.ring_switch.specs.Batching.{settled}
use Rattle.weights.specs.Settled.{entries, through}

-- one block more of m places, n of them written from `start` on
pub block_more : {X : Type 0} {k : ℕ} (means : X → Element k) (f : ℕ → Element k) (b m start n : ℕ) (ys part : List X) → start ≡ b * m → n ≡ m
    → start ≤ length ys → length part ≡ n → ((i : ℕ) → i < m → lent means part i ≡ f (b * m + i))
    → ((j : ℕ) → j < b * m → lent means ys j ≡ f j) → (j : ℕ) → j < (b + 1) * m → lent means (put_mid start n ys part) j ≡ f j
block_more means f b m start n ys part begins size room long here below j h =
    let next : (b + 1) * m ≡ b * m + m = ap (λ i. i * m) (add-one b) ∙ suc-mul b m in
    ⊎_elim
    (λ l. before_part means start n ys part j (omega arith) room ∙ below j l)
    (λ l.
    let i = j - start in
    let inside : i < m = omega arith in
    let at : start + i ≡ j = omega arith in
    let at' : b * m + i ≡ j = omega arith in
    ap (lent means (put_mid start n ys part)) (sym at) ∙ in_part means start n ys part i (omega arith) room ∙ here i inside ∙ ap f at')
    (cases_lt j (b * m))

module _ {X : Type 0} (L : Ghosts X) (equality : FactoredEquality X) where
  -- what scaled tables give for an inner entry
  pub block_through : (sums tables : ℕ → Element L.log) (weight : Element L.log) (b i : ℕ) (x : Element L.log) → i < length equality.inner.now
      → weight ≡ lent L.means equality.outer.now b → Tabulated (scaled_weights L.arithmetic sums weight) tables
      → x ≡ looked_up tables (lent L.means equality.inner.now i) → x ≡ through L equality sums (b * length equality.inner.now + i)
  block_through sums tables weight b i x inside own made read =
      read ∙ looked_up_sums _ tables made (lent L.means equality.inner.now i)
      ∙ ap₂ (λ w v. subset_sum (scaled_weights L.arithmetic sums w) (lent L.means equality.inner.now v))
      (own ∙ ap (lent L.means equality.outer.now) (sym (digits_div b inside))) (sym (digits_mod b inside))

  -- through tables of the batching weights' sums every entry is settled
  pub through_settled : Laws L.arithmetic → (f sums : ℕ → Element L.log) (i : ℕ) → Tabulated f sums → through L equality sums i ≡ settled f (entries L equality) i
  unfolding settled factored
  through_settled laws f sums i held =
      let m = length equality.inner.now in
      let a = lent L.means equality.outer.now (i / m) in
      let x = lent L.means equality.inner.now (i % m) in
      ap (λ w. subset_sum w x) (fun_ext (λ u. looked_up_sums f sums held (L.arithmetic.times a (basis L.log u)))) ∙ sym (subset_times f laws a x)
