-- The replies of a ledger obey the law of a run, whichever the ledger.
use Rattle.std.proofs.Common.{◌≡◌, ℕ, ◌<◌, ◌≤◌, ◌^◌, true, ltb, eqb, length, Some, None, sym, refl, ap, ◌∙◌, arith}
use Rattle.std.proofs.lemmas.Bool.{lt-ltb, eq-eqb}
use Rattle.level.specs.Element.{Element}
use Rattle.level.specs.Laws.{Arithmetic}
use Rattle.multilinear.specs.Cells.{packed}
use Rattle.multilinear.specs.Equality.{Point, equality, multilinear}
use Rattle.multilinear.proofs.Sums.{sum_same}
use Rattle.ring_switch.specs.Opening.{rest}
use Rattle.ring_switch.specs.Slots.{slot_count, in_slot}
use Rattle.ring_switch.specs.ClaimLaws.{value, value_one_row_on}
use Rattle.refusals.specs.Steps.{first}
use Rattle.job_rules.specs.JobRefusals.{out_of_stage}
use Rattle.job_rules.specs.Ledger.{Ledger}
use Rattle.job_rules.specs.Replies.{Reply, unless, reply, weight_of, weighed}
use Rattle.job_rules.specs.Replies.Reply.{Value, Number}
use Rattle.job_rules.specs.Requests.Request.{IncomingClaim, SuccessorClaim, InitialSum, WeightCount, Weight, ClosingValue}
use Rattle.job_rules.specs.Stages.{rank}
use Rattle.job_rules.specs.declared.stage.Stage.{Stage}
use Rattle.job_rules.specs.declared.stage.Stage.TheVariants.{Bare, Packed, Opened, Worked, Batched}

-- w is what each question for a weight of the slot is answered by
abbrev pub Tells : {k : ℕ} → Arithmetic k → ℕ → Ledger k → (ℕ → Element k) → Type 0
Tells A size l w = (j : ℕ) → j < slot_count A l.opening → reply A size l (Weight j) ≡ Value (w j)

pub record Stands {k : ℕ} (A : Arithmetic k) (size : ℕ) (l : Ledger k) : Type 0 where
  pub incoming : 3 ≤ rank l.stage → reply A size l IncomingClaim ≡ Value (value A l.opening l.bits)
  pub successor : (q : ℕ) → 3 ≤ rank l.stage → l.opening.view ≡ Some q → reply A size l SuccessorClaim ≡ Value (value_one_row_on A l.opening l.bits)
  pub count : l.stage ≡ Batched → reply A size l WeightCount ≡ Number (slot_count A l.opening)
  pub weights : l.stage ≡ Batched → Tells A size l (weight_of A l)
  pub initial : (w : ℕ → Element k) → l.stage ≡ Batched → Tells A size l w → reply A size l InitialSum ≡ Value (weighed A l w)
  pub closing : (w : ℕ → Element k) (z : Point k) → l.stage ≡ Batched → Tells A size l w → length z ≡ length (rest A l.opening)
      → reply A size l (ClosingValue z) ≡ Value (multilinear A w z)

worked : {k : ℕ} (s : Stage) (r : Reply k) → 3 ≤ rank s → unless (first (out_of_stage {k = k} s IncomingClaim) None) r ≡ r
worked Bare r h = absurd (omega arith)
worked Packed r h = absurd (omega arith)
worked Opened r h = absurd (omega arith)
worked Worked r h = refl
worked Batched r h = refl

value_same : {k : ℕ} (A : Arithmetic k) (f g : ℕ → Element k) (z : Point k) → ((i : ℕ) → i < 2 ^ length z → f i ≡ g i) → multilinear A f z ≡ multilinear A g z
unfolding multilinear
value_same A f g z e = sum_same (2 ^ length z) _ _ (λ i h. ap (λ x. A.times x (equality A z i)) (e i h))

module _ {k : ℕ} (A : Arithmetic k) (size : ℕ) (l : Ledger k) where
  defined : l.stage ≡ Batched → Tells A size l (weight_of A l)
  defined b j h =
      let t : ltb j (slot_count A l.opening) ≡ true = lt-ltb j (slot_count A l.opening) h in
      rw (b, t) refl

  -- what is told for a weight is the weight
  told_is : (w : ℕ → Element k) → l.stage ≡ Batched → Tells A size l w → (j : ℕ) → j < slot_count A l.opening → w j ≡ weight_of A l j
  told_is w b t j h = let e : Value (w j) ≡ Value (weight_of A l j) = sym (t j h) ∙ defined b j h in cc

  pub stands : Stands A size l
  stands = record {
    incoming = λ h. worked l.stage _ h;
    successor = λ q h v. rw v (worked l.stage _ h);
    count = λ b. rw b refl;
    weights = defined;
    initial = λ w b t. rw b (ap Value (sum_same (slot_count A l.opening) _ _ (λ j h. ap (λ x. A.times (in_slot A l.opening (packed k l.bits) j) x) (sym (told_is w b t j h)))));
    closing = λ w z b t fit.
        let e : eqb (length z) (length (rest A l.opening)) ≡ true = eq-eqb (length z) (length (rest A l.opening)) fit in
        let count : 2 ^ length z ≡ slot_count A l.opening = ap (λ n. 2 ^ n) fit in
        rw (b, e) (ap Value (value_same A (weight_of A l) w z (λ j h. sym (told_is w b t j (omega arith)))));
  }
