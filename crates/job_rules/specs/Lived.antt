-- The law of a run: what is told to a list of requests.
use Rattle.std.specs.Prelude.{◌≡◌, ℕ, ◌<◌, ◌≤◌, List, [], ◌∷◌, ◌++◌, length, take, drop, Some}
use Rattle.level.specs.Element.{Element}
use Rattle.level.specs.Laws.{Arithmetic}
use Rattle.multilinear.specs.Equality.{Point, multilinear}
use Rattle.ring_switch.specs.Opening.{rest}
use Rattle.ring_switch.specs.Slots.{slot_count}
use Rattle.ring_switch.specs.ClaimLaws.{value, value_one_row_on}
use Rattle.job_rules.specs.Ledger.{Ledger, empty}
use Rattle.job_rules.specs.Reaching.{Reached}
use Rattle.job_rules.specs.Replies.{Reply, reply, weight_of, weighed}
use Rattle.job_rules.specs.Replies.Reply.{Value, Number}
use Rattle.job_rules.specs.Requests.{Request}
use Rattle.job_rules.specs.Requests.Request.{IncomingClaim, SuccessorClaim, InitialSum, WeightCount, Weight, ClosingValue}
use Rattle.job_rules.specs.Runs.{after_all, replies, before, weights_asked}
use Rattle.job_rules.specs.Stages.{rank}
use Rattle.job_rules.specs.declared.stage.Stage.TheVariants.{Batched}

-- place i of a list holds x
abbrev pub At : {X : Type 0} → List X → ℕ → X → Type 0
At xs i x = take 1 (drop i xs) ≡ x ∷ []

-- request i of a run is this one, and it comes at this ledger
pub record Met {k : ℕ} (A : Arithmetic k) (size : ℕ) (requests : List (Request k)) (i : ℕ) (request : Request k) (l : Ledger k) : Type 0 where
  pub asked : At requests i request
  pub ledger : before A size requests i ≡ l

-- each weight of the slot of a ledger was asked for in the run at that ledger, and w has what was told
abbrev pub WeightsTold : {k : ℕ} → Arithmetic k → ℕ → List (Request k) → List (Reply k) → Ledger k → (ℕ → Element k) → Type 0
WeightsTold A size requests told l w = (j : ℕ) → j < slot_count A l.opening → (h : ℕ) × (Met A size requests h (Weight j) l) × (At told h (Value (w j)))

-- What was told to a list of requests since the making.
pub record Lived {k : ℕ} (A : Arithmetic k) (size : ℕ) (requests : List (Request k)) (told : List (Reply k)) : Type 0 where
  -- as many replies as requests, each by the ledger that the requests before it reach
  pub replied : told ≡ replies A size empty requests
  pub each : (i : ℕ) (request : Request k) (l : Ledger k) → Met A size requests i request l → At told i (reply A size l request)
  pub reached : (i : ℕ) → Reached size (before A size requests i)
  -- both claims are multilinear values, of the bits and of the bits one row on
  pub incoming : (i : ℕ) (l : Ledger k) → Met A size requests i IncomingClaim l → 3 ≤ rank l.stage → At told i (Value (value A l.opening l.bits))
  pub successor : (i q : ℕ) (l : Ledger k) → Met A size requests i SuccessorClaim l → 3 ≤ rank l.stage → l.opening.view ≡ Some q
      → At told i (Value (value_one_row_on A l.opening l.bits))
  -- each packed element of the slot has one weight, that of the definition
  pub count : (i : ℕ) (l : Ledger k) → Met A size requests i WeightCount l → l.stage ≡ Batched → At told i (Number (slot_count A l.opening))
  pub weights : (i j : ℕ) (l : Ledger k) → Met A size requests i (Weight j) l → l.stage ≡ Batched → j < slot_count A l.opening
      → At told i (Value (weight_of A l j))
  -- the initial sum is over the weights that were told, and the closing value is a multilinear value of their table
  pub initial : (i : ℕ) (w : ℕ → Element k) (l : Ledger k) → Met A size requests i InitialSum l → l.stage ≡ Batched → WeightsTold A size requests told l w
      → At told i (Value (weighed A l w))
  pub closing : (i : ℕ) (z : Point k) (w : ℕ → Element k) (l : Ledger k) → Met A size requests i (ClosingValue z) l → l.stage ≡ Batched
      → length z ≡ length (rest A l.opening) → WeightsTold A size requests told l w → At told i (Value (multilinear A w z))

abbrev pub AlwaysLived : Type 0
AlwaysLived = (k : ℕ) (A : Arithmetic k) (size : ℕ) (requests : List (Request k)) (told : List (Reply k)) → told ≡ replies A size empty requests → Lived A size requests told

-- a batched job that is asked for each weight, index 0 first, has told them all
abbrev pub WeightsAreTold : Type 0
WeightsAreTold =
    (k : ℕ) (A : Arithmetic k) (size : ℕ) (requests : List (Request k)) (l : Ledger k) → after_all A size empty requests ≡ l → l.stage ≡ Batched
    → let run = requests ++ weights_asked 0 (slot_count A l.opening) in WeightsTold A size run (replies A size empty run) l (weight_of A l)
