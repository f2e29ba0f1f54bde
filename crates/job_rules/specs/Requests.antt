-- What a job is asked, by what the elements given mean: four steps, two of them in two forms, and six questions.
use Rattle.std.specs.Prelude.{ℕ, List, map, Some, None, Option}
use Rattle.level.specs.Element.{Element}
use Rattle.multilinear.specs.Equality.{Point}
use Rattle.ring_switch.specs.Opening.{Opening}
use Rattle.job_rules.specs.declared.call.Call.{Call}
use Rattle.job_rules.specs.declared.call.Call.TheVariants as call

pub data Request (k : ℕ) : Type 0 where
  -- the bytes of a table of bits
  Pack : (bytes : List ℕ) → Request k
  Open : (opening : Opening k) → Request k
  Work : Request k
  -- a batching point, and a challenge or none
  Batch : (point : Point k) (challenge : Option (Element k)) → Request k
  IncomingClaim : Request k
  SuccessorClaim : Request k
  InitialSum : Request k
  WeightCount : Request k
  Weight : (index : ℕ) → Request k
  ClosingValue : (point : Point k) → Request k

-- what a call asks
abbrev pub request : {X : Type 0} {k : ℕ} → (X → Element k) → Call X → Request k
request means (call.Pack bytes) = Pack bytes.now
request means (call.Open point) = Open (record { point = map means point.now; view = None })
request means (call.OpenWithSuccessor point rows) = Open (record { point = map means point.now; view = Some rows })
request means call.Work = Work
request means (call.Batch point) = Batch (map means point.now) None
request means (call.BatchWithSuccessor point challenge) = Batch (map means point.now) (Some (means challenge))
request means call.IncomingClaim = IncomingClaim
request means call.SuccessorClaim = SuccessorClaim
request means call.InitialSum = InitialSum
request means call.WeightCount = WeightCount
request means (call.Weight index) = Weight index
request means (call.ClosingValue point) = ClosingValue (map means point.now)
