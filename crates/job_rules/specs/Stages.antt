-- Which stage a request asks for, and where it leads.
use Rattle.std.specs.Prelude.{ℕ}
use Rattle.job_rules.specs.Requests.{Request}
use Rattle.job_rules.specs.Requests.Request.{Pack, Open, Work, Batch, IncomingClaim, SuccessorClaim, InitialSum, WeightCount, Weight, ClosingValue}
use Rattle.job_rules.specs.declared.stage.Stage.{Stage}
use Rattle.job_rules.specs.declared.stage.Stage.TheVariants.{Bare, Packed, Opened, Worked, Batched}

-- the stages in their order
abbrev pub rank : Stage → ℕ
rank Bare = 0
rank Packed = 1
rank Opened = 2
rank Worked = 3
rank Batched = 4

-- the first stage that allows a request: all after it do too
abbrev pub asks_for : {k : ℕ} → Request k → Stage
asks_for (Pack bytes) = Bare
asks_for (Open opening) = Packed
asks_for Work = Opened
asks_for (Batch point challenge) = Worked
asks_for IncomingClaim = Worked
asks_for SuccessorClaim = Worked
asks_for InitialSum = Batched
asks_for WeightCount = Batched
asks_for (Weight index) = Batched
asks_for (ClosingValue point) = Batched

-- the stage after a request that is not refused: a step has one of its own, a question leaves the one before it
abbrev pub stage_after : {k : ℕ} → Stage → Request k → Stage
stage_after stage (Pack bytes) = Packed
stage_after stage (Open opening) = Opened
stage_after stage Work = Worked
stage_after stage (Batch point challenge) = Batched
stage_after stage IncomingClaim = stage
stage_after stage SuccessorClaim = stage
stage_after stage InitialSum = stage
stage_after stage WeightCount = stage
stage_after stage (Weight index) = stage
stage_after stage (ClosingValue point) = stage
