-- The number and the values of each fault of a job, and which refusal each request meets.
use Rattle.std.specs.Prelude.{ℕ, ◌-◌, cond, List, [], ◌∷◌, length, is_some, Some, None, Option, nat_lt, nat_le}
use Rattle.level.specs.Laws.{Arithmetic}
use Rattle.ring_switch.specs.Opening.{variables, kept, rest}
use Rattle.ring_switch.specs.Slots.{slot_count}
use Rattle.refusals.specs.Refusals.{Refusal, packing_refusal, ring_switch_refusal}
use Rattle.refusals.specs.Steps as step
use Rattle.job_rules.specs.Capacity.{capacity, told_capacity}
use Rattle.job_rules.specs.Ledger.{Ledger, cells_log}
use Rattle.job_rules.specs.Requests.{Request}
use Rattle.job_rules.specs.Requests.Request.{Pack, Open, Work, Batch, IncomingClaim, SuccessorClaim, InitialSum, WeightCount, Weight, ClosingValue}
use Rattle.job_rules.specs.Stages.{rank, asks_for}
use Rattle.job_rules.specs.declared.faults.JobFault.{JobFault}
use Rattle.job_rules.specs.declared.faults.JobFault.TheVariants.{OutOfStage, Packing, OverCapacity, PointOverCapacity, RingSwitch}
use Rattle.job_rules.specs.declared.stage.Stage.{Stage}

abbrev with : ℕ → List ℕ → Refusal
with n vs = record { number = n; values = vs }

abbrev pub job_refusal : JobFault → Refusal
job_refusal OutOfStage = with 7 []
job_refusal (Packing fault) = packing_refusal fault
job_refusal (OverCapacity needed capacity) = with 12 (needed ∷ capacity ∷ [])
job_refusal (PointOverCapacity n capacity) = with 15 (n ∷ capacity ∷ [])
job_refusal (RingSwitch fault) = ring_switch_refusal fault

abbrev meets : JobFault → Option Refusal
meets e = Some (job_refusal e)

-- a request at a stage before the first that allows it
abbrev pub out_of_stage : {k : ℕ} → Stage → Request k → Option Refusal
out_of_stage stage request = cond (nat_le (rank (asks_for request)) (rank stage)) None (meets OutOfStage)

-- the log n of a table's cells against the capacity, and a point of n coordinates
abbrev pub over_capacity : Option ℕ → ℕ → Option Refusal
over_capacity c n = cond (nat_lt (told_capacity c) n) (meets (OverCapacity n (told_capacity c))) None

abbrev pub point_over_capacity : Option ℕ → ℕ → Option Refusal
point_over_capacity c n = cond (nat_lt (told_capacity c) n) (meets (PointOverCapacity n (told_capacity c))) None

-- the tests of a request after that of the stage, in their order, in a job over `size` elements
abbrev pub tests : {k : ℕ} → Arithmetic k → ℕ → Ledger k → Request k → Option Refusal
tests {k} A size l (Pack bytes) = step.first (step.packing (step.told k) (length bytes)) (over_capacity (capacity k size) (cells_log (length bytes)))
tests {k} A size l (Open o) = step.first (step.opening k (length o.point) o.view) (point_over_capacity (capacity k size) (length o.point))
tests {k} A size l Work = step.width (variables l.opening) (l.variables - k)
tests {k} A size l (Batch point challenge) = step.batching k (is_some (kept k l.opening.view)) (is_some challenge) (length point)
tests A size l IncomingClaim = None
tests A size l SuccessorClaim = step.successor l.opening.view
tests A size l InitialSum = None
tests A size l WeightCount = None
tests A size l (Weight index) = step.weight (slot_count A l.opening) index
tests A size l (ClosingValue point) = step.closing (length (rest A l.opening)) (length point)

-- the refusal that a request meets, none where a step is done or a question answered
abbrev pub refusal : {k : ℕ} → Arithmetic k → ℕ → Ledger k → Request k → Option Refusal
refusal A size l request = step.first (out_of_stage l.stage request) (tests A size l request)
