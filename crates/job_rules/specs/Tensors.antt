-- The answers of a job once more, as the reduction forms them: claims from the columns of tensors, and batched rows.
use Rattle.std.specs.Prelude.{◌≡◌, ℕ, ◌≤◌, List, length}
use Rattle.level.specs.Laws.{Arithmetic, Laws}
use Rattle.multilinear.specs.Equality.{Point, equality, multilinear}
use Rattle.ring_switch.specs.Opening.{named, low, rest, kept_rows}
use Rattle.ring_switch.specs.Claims.{incoming, successor_claim}
use Rattle.ring_switch.specs.ClaimLaws.{opened, opened_carry, opened_last, value, value_one_row_on}
use Rattle.ring_switch.specs.Batching.{initial_sum, closing_value}
use Rattle.job_rules.specs.Ledger.{Ledger, empty}
use Rattle.job_rules.specs.Replies.{weight_of, weighed}
use Rattle.job_rules.specs.Requests.{Request}
use Rattle.job_rules.specs.Runs.{after_all}
use Rattle.job_rules.specs.Stages.{rank}

-- Each answer of a ledger is also the reduction's: the two claims once there is an opening, the others always.
pub record ByTensors {k : ℕ} (A : Arithmetic k) (l : Ledger k) : Type 0 where
  pub incoming_is : 2 ≤ rank l.stage → value A l.opening l.bits ≡ incoming A (equality A (low l.opening)) (opened A l.opening l.bits)
  pub successor_is : 2 ≤ rank l.stage
      → value_one_row_on A l.opening l.bits
      ≡ successor_claim A (equality A (low l.opening)) (named l.opening.view) (opened A l.opening l.bits) (opened_carry A l.opening l.bits) (opened_last A l.opening l.bits)
  pub initial_is :
      weighed A l (weight_of A l)
      ≡ initial_sum A (equality A l.batching) l.challenge (opened A l.opening l.bits) (opened_carry A l.opening l.bits) (opened_last A l.opening l.bits)
  pub closing_is : (z : Point k) → length z ≡ length (rest A l.opening)
      → multilinear A (weight_of A l) z ≡ closing_value A (equality A l.batching) (rest A l.opening) (kept_rows l.opening) l.challenge z

abbrev pub AlwaysByTensors : Type 0
AlwaysByTensors = (k : ℕ) (A : Arithmetic k) → Laws A → (size : ℕ) (requests : List (Request k)) → ByTensors A (after_all A size empty requests)
