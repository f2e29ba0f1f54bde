-- The batching of the packed elements of an opening's slot.
use Rattle.std.specs.Prelude.{◌≡◌, ℕ, ◌<◌, List, map, length, is_some, Option}
use Rattle.std.specs.Option.{option_map}
use Rattle.level.specs.declared.level.Level.{Ghosts}
use Rattle.level.specs.Element.{Element, width}
use Rattle.level.specs.Laws.{Arithmetic}
use Rattle.multilinear.specs.Lent.{lent}
use Rattle.multilinear.specs.Equality.{Point, equality}
use Rattle.ring_switch.specs.Opening.{Opening, View, kept}
use Rattle.ring_switch.specs.Batching.{initial_sum}
use Rattle.ring_switch.specs.ClaimLaws.{opened, opened_carry, opened_last}
use Rattle.refusals.specs.Refusals.{Refusal}
use Rattle.refusals.specs.Steps as step
use Rattle.opening.specs.Openings.{opening_of}
use Rattle.opening.specs.Batches.{rows_of}
use Rattle.opening.specs.declared.batch.BitRingSwitchBatch.{BitRingSwitchBatch}

-- batching at a point of n coordinates, with a challenge or without
abbrev pub batch_refusal : {X : Type 0} → ℕ → View → Option X → ℕ → Option Refusal
batch_refusal k view challenge n = step.batching k (is_some (kept k view)) (is_some challenge) n

-- batching weights that agree at each coordinate of an element
abbrev pub Agree : {k : ℕ} → (ℕ → Element k) → (ℕ → Element k) → Type 0
Agree {k} f g = (u : ℕ) → u < width k → f u ≡ g u

-- a slice of elements has the batching weights of a point: one for each coordinate, and they are its equality table
pub record RowsOf {X : Type 0} (L : Ghosts X) (point rows : List X) : Type 0 where
  pub size : length rows ≡ width L.log
  pub entries : Agree (lent L.means rows) (equality L.arithmetic (map L.means point))

-- the batching of an opening
pub record Batching (k : ℕ) : Type 0 where
  pub opening : Opening k
  -- the batching weights of an element's coordinates
  pub rows : ℕ → Element k
  pub challenge : Option (Element k)

-- at a point, by its equality table
abbrev pub batching_at : {k : ℕ} → Arithmetic k → Opening k → Point k → Option (Element k) → Batching k
batching_at A o p α = record { opening = o; rows = equality A p; challenge = α }

-- that of the code's type
abbrev pub batching_of : {X : Type 0} (L : Ghosts X) → BitRingSwitchBatch X L → Batching L.log
batching_of L b = record { opening = opening_of L b.reduction; rows = rows_of L b; challenge = option_map L.means b.alpha }

-- the initial sum of the tensors of a table of bits
abbrev pub initial : {k : ℕ} → Arithmetic k → Batching k → (ℕ → ℕ) → Element k
initial A b bits = initial_sum A b.rows b.challenge (opened A b.opening bits) (opened_carry A b.opening bits) (opened_last A b.opening bits)
