-- A batched job that is asked for each weight tells it, since a question leaves the ledger alone.
use Rattle.std.proofs.Common.{◌≡◌, ℕ, zero, suc, ◌+◌, ◌<◌, ◌≤◌, Bool, true, false, cond, is_some, List, [], ◌∷◌, ◌++◌, length, take, refl, ap, ◌∙◌, arith}
use Rattle.std.proofs.Math.Seq.{take-append-add, drop-append-add}
use Rattle.level.specs.Laws.{Arithmetic}
use Rattle.ring_switch.specs.Slots.{slot_count}
use Rattle.job_rules.specs.JobRefusals.{refusal}
use Rattle.job_rules.specs.Ledger.{Ledger, empty}
use Rattle.job_rules.specs.Lived.{At, Met, WeightsTold}
use Rattle.job_rules.specs.Replies.{weight_of}
use Rattle.job_rules.specs.Requests.{Request}
use Rattle.job_rules.specs.Requests.Request.{Weight}
use Rattle.job_rules.specs.Runs.{after, after_all, replies, weights_asked}
use Rattle.job_rules.specs.declared.stage.Stage.TheVariants.{Batched}
use Rattle.job_rules.proofs.Living.{lived}
use Rattle.job_rules.proofs.Runs.{after_append}

either_way : {X : Type 0} (b : Bool) (x : X) → cond b x x ≡ x
either_way true x = refl
either_way false x = refl

-- the questions for weights leave the ledger alone
asked_leave : {k : ℕ} (A : Arithmetic k) (size : ℕ) (l : Ledger k) (i n : ℕ) → after_all A size l (weights_asked i n) ≡ l
unfolding after_all weights_asked
asked_leave A size l i zero = refl
asked_leave A size l i (suc n) =
    let same : after A size l (Weight i) ≡ l = either_way (is_some (refusal A size l (Weight i))) l in
    ap (λ s. after_all A size s (weights_asked (suc i) n)) same ∙ asked_leave A size l (suc i) n

asked_at : {k : ℕ} (i n j m : ℕ) → j < n → m ≡ i + j → At (weights_asked {k = k} i n) j (Weight m)
unfolding weights_asked
asked_at i zero j m h e = absurd (omega arith)
asked_at i (suc n) zero m h e = let s : i ≡ m = omega arith in ap (λ v. Weight v ∷ []) s
asked_at i (suc n) (suc j) m h e = asked_at (suc i) n j m (omega arith) (omega arith)

asked_before : {k : ℕ} (i n j : ℕ) → j ≤ n → take j (weights_asked {k = k} i n) ≡ weights_asked i j
unfolding weights_asked
asked_before i n zero h = refl
asked_before i zero (suc j) h = absurd (omega arith)
asked_before i (suc n) (suc j) h = ap (λ qs. Weight i ∷ qs) (asked_before (suc i) n j (omega arith))

module _ {k : ℕ} (A : Arithmetic k) (size : ℕ) (requests : List (Request k)) (l : Ledger k) (e : after_all A size empty requests ≡ l) (b : l.stage ≡ Batched) where
  abbrev run : List (Request k)
  run = requests ++ weights_asked 0 (slot_count A l.opening)

  met_at : (j : ℕ) → j < slot_count A l.opening → Met A size run (length requests + j) (Weight j) l
  met_at j h =
      let asks = weights_asked {k = k} 0 (slot_count A l.opening) in
      record {
        asked = ap (take 1) (drop-append-add requests asks j) ∙ asked_at 0 (slot_count A l.opening) j j h (omega arith);
        ledger =
            ap (after_all A size empty) (take-append-add requests asks j ∙ ap (λ qs. requests ++ qs) (asked_before 0 (slot_count A l.opening) j (omega arith)))
            ∙ after_append A size empty requests (weights_asked 0 j) ∙ asked_leave A size (after_all A size empty requests) 0 j ∙ e;
      }

  pub weights_told : WeightsTold A size run (replies A size empty run) l (weight_of A l)
  weights_told j h =
      let m = met_at j h in
      (length requests + j, m, (lived A size run (replies A size empty run) refl).weights (length requests + j) j l m b h)
