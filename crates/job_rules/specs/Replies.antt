-- What a job answers: values of its table, weights of its slot, and sums and values over these.
use Rattle.std.specs.Prelude.{ℕ, Some, None, Option, Ok, Err, Result}
use Rattle.level.specs.Element.{Element}
use Rattle.level.specs.Laws.{Arithmetic}
use Rattle.multilinear.specs.Sums.{sum}
use Rattle.multilinear.specs.Cells.{packed}
use Rattle.multilinear.specs.Equality.{equality, multilinear}
use Rattle.ring_switch.specs.Opening.{kept_rows}
use Rattle.ring_switch.specs.Slots.{slot_table, slot_count, in_slot}
use Rattle.ring_switch.specs.ClaimLaws.{value, value_one_row_on}
use Rattle.ring_switch.specs.Batching.{weight}
use Rattle.refusals.specs.Refusals.{Refusal}
use Rattle.job_rules.specs.JobRefusals.{job_refusal, refusal}
use Rattle.job_rules.specs.Ledger.{Ledger}
use Rattle.job_rules.specs.Requests.{Request}
use Rattle.job_rules.specs.Requests.Request.{Pack, Open, Work, Batch, IncomingClaim, SuccessorClaim, InitialSum, WeightCount, Weight, ClosingValue}
use Rattle.job_rules.specs.declared.answer.Answer.{Answer}
use Rattle.job_rules.specs.declared.answer.Answer.TheVariants as answer
use Rattle.job_rules.specs.declared.faults.JobFault.{JobFault}

pub data Reply (k : ℕ) : Type 0 where
  Done : Reply k
  Value : (x : Element k) → Reply k
  Number : (n : ℕ) → Reply k
  Refused : (r : Refusal) → Reply k

-- the weight of packed element i of the slot
abbrev pub weight_of : {k : ℕ} → Arithmetic k → Ledger k → ℕ → Element k
weight_of A l = weight A (equality A l.batching) (slot_table A l.opening) (kept_rows l.opening) l.challenge

-- the packed elements of the slot, each times what w gives it, summed
abbrev pub weighed : {k : ℕ} → Arithmetic k → Ledger k → (ℕ → Element k) → Element k
weighed {k} A l w = sum (slot_count A l.opening) (λ i. A.times (in_slot A l.opening (packed k l.bits) i) (w i))

-- the answer to a request that is not refused
abbrev pub answer_to : {k : ℕ} → Arithmetic k → Ledger k → Request k → Reply k
answer_to A l (Pack bytes) = Done
answer_to A l (Open opening) = Done
answer_to A l Work = Done
answer_to A l (Batch point challenge) = Done
-- the multilinear value of the bits at the point, and that of the bits one row on
answer_to A l IncomingClaim = Value (value A l.opening l.bits)
answer_to A l SuccessorClaim = Value (value_one_row_on A l.opening l.bits)
answer_to A l InitialSum = Value (weighed A l (weight_of A l))
answer_to A l WeightCount = Number (slot_count A l.opening)
answer_to A l (Weight index) = Value (weight_of A l index)
-- the multilinear value of the table of weights, index 0 first, at the closing point
answer_to A l (ClosingValue point) = Value (multilinear A (weight_of A l) point)

abbrev pub unless : {k : ℕ} → Option Refusal → Reply k → Reply k
unless None reply = reply
unless (Some r) reply = Refused r

-- the reply of a job over `size` elements to a request
abbrev pub reply : {k : ℕ} → Arithmetic k → ℕ → Ledger k → Request k → Reply k
reply A size l request = unless (refusal A size l request) (answer_to A l request)

-- what an answer means
abbrev pub meaning : {X : Type 0} {k : ℕ} → (X → Element k) → Answer X → Reply k
meaning means answer.Done = Done
meaning means (answer.Element x) = Value (means x)
meaning means (answer.Count n) = Number n

-- what an outcome tells
abbrev pub told : {X : Type 0} {k : ℕ} → (X → Element k) → Result (Answer X) JobFault → Reply k
told means (Ok a) = meaning means a
told means (Err e) = Refused (job_refusal e)
