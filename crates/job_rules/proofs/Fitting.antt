-- Steps that fit one another are not refused.
use Rattle.std.proofs.Common.{◌≡◌, ℕ, ◌-◌, ◌≤◌, Bool, true, false, cond, ltb, eqb, is_some, List, [], ◌∷◌, length, Some, None, Option, sym, refl, ap, ◌∙◌, arith}
use Rattle.std.proofs.lemmas.Bool.{eq-eqb, le-ltb}
use Rattle.level.specs.Element.{Element}
use Rattle.level.specs.Laws.{Arithmetic}
use Rattle.multilinear.specs.Equality.{Point}
use Rattle.ring_switch.specs.Opening.{Opening, View, named, variables, kept}
use Rattle.refusals.specs.Refusals.{Refusal}
use Rattle.refusals.specs.Steps as step
use Rattle.job_rules.specs.Capacity.{capacity, told_capacity}
use Rattle.job_rules.specs.Fitting.{Fits, filled}
use Rattle.job_rules.specs.JobRefusals.{over_capacity, point_over_capacity, refusal}
use Rattle.job_rules.specs.Ledger.{Ledger, empty, cells_log, moved}
use Rattle.job_rules.specs.Requests.{Request}
use Rattle.job_rules.specs.Requests.Request.{Pack, Open, Work, Batch}
use Rattle.job_rules.specs.Runs.{after, after_all}
use Rattle.job_rules.proofs.Counted.{packable}

both : (a b : Option Refusal) → a ≡ None → b ≡ None → step.first a b ≡ None
both a b e f = ap (λ s. step.first s b) e ∙ f

cells_pass : (c : Option ℕ) (n : ℕ) → n ≤ told_capacity c → over_capacity c n ≡ None
cells_pass c n h = let t : ltb (told_capacity c) n ≡ false = le-ltb (told_capacity c) n h in rw t refl

point_passes : (c : Option ℕ) (n : ℕ) → n ≤ told_capacity c → point_over_capacity c n ≡ None
point_passes c n h = let t : ltb (told_capacity c) n ≡ false = le-ltb (told_capacity c) n h in rw t refl

opening_passes : (k n : ℕ) (view : View) → k ≤ n → named view ≤ n → step.opening k n view ≡ None
opening_passes k n None h g = let t : ltb n k ≡ false = le-ltb n k h in rw t refl
opening_passes k n (Some q) h g =
    let t : ltb n k ≡ false = le-ltb n k h in
    let u : ltb n q ≡ false = le-ltb n q g in
    rw (u, t) refl

width_passes : (m n : ℕ) → n ≡ m → step.width m n ≡ None
width_passes m n e = let t : eqb n m ≡ true = eq-eqb n m e in rw t refl

batching_passes : (k b : ℕ) (sent challenged : Bool) → challenged ≡ sent → b ≡ k → step.batching k sent challenged b ≡ None
batching_passes k b true true e f = let t : eqb b k ≡ true = eq-eqb b k f in rw t refl
batching_passes k b false false e f = let t : eqb b k ≡ true = eq-eqb b k f in rw t refl
batching_passes k b true false e f = let z : ◌≡◌ {A = ℕ} 0 1 = cc in absurd (omega arith)
batching_passes k b false true e f = let z : ◌≡◌ {A = ℕ} 0 1 = cc in absurd (omega arith)

-- a request that is not refused moves the ledger
moves : {k : ℕ} (A : Arithmetic k) (size : ℕ) (l : Ledger k) (request : Request k) → refusal A size l request ≡ None → after A size l request ≡ moved l request
moves A size l request e = ap (λ o. cond (is_some o) l (moved l request)) e

module _ {k : ℕ} (A : Arithmetic k) (size : ℕ) (bytes : List ℕ) (o : Opening k) (batching : Point k) (challenge : Option (Element k)) (fits : Fits size bytes o batching challenge) where
  abbrev packed : Ledger k
  packed = moved empty (Pack bytes)

  abbrev opened : Ledger k
  opened = moved packed (Open o)

  abbrev worked : Ledger k
  worked = moved opened Work

  at_pack : after A size empty (Pack bytes) ≡ packed
  at_pack = moves A size empty (Pack bytes) (both (step.packing (step.told k) (length bytes)) (over_capacity (capacity k size) (cells_log (length bytes))) fits.packs (cells_pass (capacity k size) (cells_log (length bytes)) fits.within))

  at_open : after A size packed (Open o) ≡ opened
  at_open =
      let p = packable k (length bytes) (sym fits.packs) in
      moves A size packed (Open o)
      (both (step.opening k (length o.point) o.view) (point_over_capacity (capacity k size) (length o.point))
      (opening_passes k (length o.point) o.view (omega (arith, p.filled, fits.point)) fits.rows) (point_passes (capacity k size) (length o.point) (omega (arith, fits.point, fits.within))))

  at_work : after A size opened Work ≡ worked
  at_work = moves A size opened Work (width_passes (variables o) (cells_log (length bytes) - k) (omega (arith, fits.point)))

  at_batch : after A size worked (Batch batching challenge) ≡ filled bytes o batching challenge
  at_batch = moves A size worked (Batch batching challenge) (batching_passes k (length batching) (is_some (kept k o.view)) (is_some challenge) fits.challenged fits.batching_point)

  pub fitting_steps : after_all A size empty (Pack bytes ∷ Open o ∷ Work ∷ Batch batching challenge ∷ []) ≡ filled bytes o batching challenge
  unfolding after_all
  fitting_steps =
      ap (λ l. after A size (after A size (after A size l (Open o)) Work) (Batch batching challenge)) at_pack
      ∙ ap (λ l. after A size (after A size l Work) (Batch batching challenge)) at_open
      ∙ ap (λ l. after A size l (Batch batching challenge)) at_work ∙ at_batch
