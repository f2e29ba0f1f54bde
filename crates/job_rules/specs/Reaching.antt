-- What holds of every ledger that a list of requests reaches.
use Rattle.std.specs.Prelude.{◌≡◌, ℕ, ◌^◌, ◌≤◌, List, [], length, None, is_some}
use Rattle.level.specs.Laws.{Arithmetic}
use Rattle.ring_switch.specs.Opening.{named, kept}
use Rattle.ring_switch.specs.ClaimLaws.{Binary}
use Rattle.job_rules.specs.Capacity.{capacity, told_capacity}
use Rattle.job_rules.specs.Ledger.{Ledger, empty, unopened}
use Rattle.job_rules.specs.Requests.{Request}
use Rattle.job_rules.specs.Runs.{after_all}
use Rattle.job_rules.specs.Stages.{rank}
use Rattle.job_rules.specs.declared.stage.Stage.TheVariants.{Bare, Batched}

-- Stages in order: 0 bare, 1 packed, 2 opened, 3 worked, 4 batched; `size` is how many elements the job is over.
pub record Reached {k : ℕ} (size : ℕ) (l : Ledger k) : Type 0 where
  pub new : l.stage ≡ Bare → l ≡ empty
  -- the table is one of bits, with none past its cells, and its cells and the level are such as the capacity is for
  pub binary : Binary l.bits
  pub cells : 1 ≤ rank l.stage → (c : ℕ) → 2 ^ l.variables ≤ c → l.bits c ≡ 0
  pub packed : 1 ≤ rank l.stage → (3 ≤ k) × (k ≤ 7) × (k ≤ l.variables) × (l.variables ≤ told_capacity (capacity k size))
  -- an opening is one that the level and the capacity allow, and its point fits the table once its tensors are formed
  pub opened : 2 ≤ rank l.stage → (k ≤ length l.opening.point) × (length l.opening.point ≤ told_capacity (capacity k size))
  pub rows : named l.opening.view ≤ length l.opening.point
  pub worked : 3 ≤ rank l.stage → length l.opening.point ≡ l.variables
  -- a batching point and a challenge are those of the opening
  pub batched : l.stage ≡ Batched → (length l.batching ≡ k) × (is_some l.challenge ≡ is_some (kept k l.opening.view))
  -- before each stage, what it writes is struck out
  pub closed : rank l.stage ≤ 1 → l.opening ≡ unopened
  pub struck : rank l.stage ≤ 3 → (l.batching ≡ []) × (l.challenge ≡ None)

abbrev pub AllReached : Type 0
AllReached = (k : ℕ) (A : Arithmetic k) (size : ℕ) (requests : List (Request k)) → Reached size (after_all A size empty requests)
