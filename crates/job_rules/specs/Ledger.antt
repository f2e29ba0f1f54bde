-- A job's ledger: what the arguments of its calls, and nothing else, say of it.
use Rattle.std.specs.Prelude.{◌≡◌, ℕ, ◌+◌, ◌^◌, [], length, None, Option}
use Rattle.std.specs.Int.Count.{count_trailing_zeros}
use Rattle.level.specs.Element.{Element}
use Rattle.multilinear.specs.Equality.{Point}
use Rattle.multilinear.specs.Cells.{cell}
use Rattle.ring_switch.specs.Opening.{Opening}
use Rattle.job_rules.specs.Requests.{Request}
use Rattle.job_rules.specs.Requests.Request.{Pack, Open, Work, Batch, IncomingClaim, SuccessorClaim, InitialSum, WeightCount, Weight, ClosingValue}
use Rattle.job_rules.specs.Stages.{stage_after}
use Rattle.job_rules.specs.declared.stage.Stage.{Stage}
use Rattle.job_rules.specs.declared.stage.Stage.TheVariants.{Bare}

pub record Ledger (k : ℕ) : Type 0 where
  pub stage : Stage
  -- the table of bits, and the log of how many cells it has
  pub bits : ℕ → ℕ
  pub variables : ℕ
  pub opening : Opening k
  -- the batching point, and the challenge or none
  pub batching : Point k
  pub challenge : Option (Element k)

-- what stands in place of an opening before there is one
abbrev pub unopened : {k : ℕ} → Opening k
unopened = record { point = []; view = None }

-- the ledger of a job that was just made
abbrev pub empty : {k : ℕ} → Ledger k
empty = record { stage = Bare; bits = cell []; variables = 0; opening = unopened; batching = []; challenge = None }

-- the log of how many cells n bytes have, where that is a power of two
abbrev pub cells_log : ℕ → ℕ
cells_log n = 3 + count_trailing_zeros n n

abbrev pub CellsAreCounted : Type 0
CellsAreCounted = (e : ℕ) → cells_log (2 ^ e) ≡ e + 3

-- what a request writes over the old entries, with what later stages wrote struck out; a question writes nothing
abbrev pub written : {k : ℕ} → Ledger k → Request k → Ledger k
written l (Pack bytes) = record empty { bits = cell bytes; variables = cells_log (length bytes) }
written l (Open opening) = record l { opening = opening; batching = []; challenge = None }
written l Work = record l { batching = []; challenge = None }
written l (Batch point challenge) = record l { batching = point; challenge = challenge }
written l IncomingClaim = l
written l SuccessorClaim = l
written l InitialSum = l
written l WeightCount = l
written l (Weight index) = l
written l (ClosingValue point) = l

-- the ledger after a request that is not refused
abbrev pub moved : {k : ℕ} → Ledger k → Request k → Ledger k
moved l request = record (written l request) { stage = stage_after l.stage request }
