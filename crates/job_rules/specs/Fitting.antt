-- Four steps that fit one another, and the ledger that they reach: none of them is refused.
use Rattle.std.specs.Prelude.{◌≡◌, ℕ, ◌≤◌, List, [], ◌∷◌, length, is_some, None, Option}
use Rattle.level.specs.Element.{Element}
use Rattle.level.specs.Laws.{Arithmetic}
use Rattle.multilinear.specs.Cells.{cell}
use Rattle.multilinear.specs.Equality.{Point}
use Rattle.ring_switch.specs.Opening.{Opening, named, kept}
use Rattle.refusals.specs.Steps.{told, packing}
use Rattle.job_rules.specs.Capacity.{capacity, told_capacity}
use Rattle.job_rules.specs.Ledger.{Ledger, empty, cells_log}
use Rattle.job_rules.specs.Requests.Request.{Pack, Open, Work, Batch}
use Rattle.job_rules.specs.Runs.{after_all}
use Rattle.job_rules.specs.declared.stage.Stage.TheVariants.{Batched}

-- the arguments of the steps in a job over `size` elements
pub record Fits {k : ℕ} (size : ℕ) (bytes : List ℕ) (o : Opening k) (batching : Point k) (challenge : Option (Element k)) : Type 0 where
  pub packs : packing (told k) (length bytes) ≡ None
  pub within : cells_log (length bytes) ≤ told_capacity (capacity k size)
  pub point : length o.point ≡ cells_log (length bytes)
  pub rows : named o.view ≤ length o.point
  pub batching_point : length batching ≡ k
  pub challenged : is_some challenge ≡ is_some (kept k o.view)

-- the ledger that has them all
abbrev pub filled : {k : ℕ} → List ℕ → Opening k → Point k → Option (Element k) → Ledger k
filled bytes o batching challenge =
    record { stage = Batched; bits = cell bytes; variables = cells_log (length bytes); opening = o; batching = batching; challenge = challenge }

abbrev pub FittingStepsBatch : Type 0
FittingStepsBatch =
    (k : ℕ) (A : Arithmetic k) (size : ℕ) (bytes : List ℕ) (o : Opening k) (batching : Point k) (challenge : Option (Element k)) → Fits size bytes o batching challenge
    → after_all A size empty (Pack bytes ∷ Open o ∷ Work ∷ Batch batching challenge ∷ []) ≡ filled bytes o batching challenge
