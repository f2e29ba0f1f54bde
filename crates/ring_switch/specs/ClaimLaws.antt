-- What the claims of an opened table are: multilinear values of its bits.
use Rattle.std.specs.Prelude.{◌≡◌, ℕ, ◌<◌}
use Rattle.level.specs.Element.{Element}
use Rattle.level.specs.Laws.{Arithmetic}
use Rattle.multilinear.specs.Equality.{equality, multilinear}
use Rattle.multilinear.specs.Cells.{standing, packed, one_row_on}
use Rattle.tensor_algebra.specs.Tensor.{Tensor}
use Rattle.ring_switch.specs.Opening.{Opening, named, low, kept_rows}
use Rattle.ring_switch.specs.Claims.{tensor, carry, last, incoming, successor_claim}
use Rattle.ring_switch.specs.Slots.{packed_count, table}

-- every cell of a table is 0 or 1
abbrev pub Binary : (ℕ → ℕ) → Type 0
Binary bits = (c : ℕ) → bits c < 2

-- the tensor, the carry and the last of a table of bits that is opened
abbrev pub opened : {k : ℕ} → Arithmetic k → Opening k → (ℕ → ℕ) → Tensor k
opened {k} A o bits = tensor (packed_count o) (table A o) (packed k bits)

abbrev pub opened_carry : {k : ℕ} → Arithmetic k → Opening k → (ℕ → ℕ) → Tensor k
opened_carry {k} A o bits = carry (kept_rows o) (packed_count o) (table A o) (packed k bits)

abbrev pub opened_last : {k : ℕ} → Arithmetic k → Opening k → (ℕ → ℕ) → Tensor k
opened_last {k} A o bits = last (kept_rows o) (packed_count o) (table A o) (packed k bits)

-- the multilinear value of a table of bits at the point of an opening
abbrev pub value : {k : ℕ} → Arithmetic k → Opening k → (ℕ → ℕ) → Element k
value A o bits = multilinear A (λ c. standing A (bits c)) o.point

-- and that of the table one row on under its view, last rows repeated
abbrev pub value_one_row_on : {k : ℕ} → Arithmetic k → Opening k → (ℕ → ℕ) → Element k
value_one_row_on A o bits = value A o (one_row_on (named o.view) bits)

-- the incoming claim of the tensor is the value of the table
abbrev pub IncomingIsMultilinear : {k : ℕ} → Arithmetic k → Opening k → (ℕ → ℕ) → Type 0
IncomingIsMultilinear A o bits = incoming A (equality A (low o)) (opened A o bits) ≡ value A o bits

-- the successor claim of the three tensors is the value of the table one row on
abbrev pub SuccessorIsMultilinear : {k : ℕ} → Arithmetic k → Opening k → (ℕ → ℕ) → Type 0
SuccessorIsMultilinear A o bits =
    successor_claim A (equality A (low o)) (named o.view) (opened A o bits) (opened_carry A o bits) (opened_last A o bits) ≡ value_one_row_on A o bits
