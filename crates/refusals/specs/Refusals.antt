-- The number and the values of each fault.
use Rattle.std.specs.Prelude.{ℕ, cond, List, [], ◌∷◌, Some, None, Ok, Err, Option, Result}
use Rattle.refusals.specs.declared.faults.BitPackingError.{BitPackingError}
use Rattle.refusals.specs.declared.faults.BitPackingError.TheVariants.{LevelTooWide, SubByteLevel, NotAHypercube, TooShort}
use Rattle.refusals.specs.declared.faults.BitRingSwitchError.{BitRingSwitchError}
use Rattle.refusals.specs.declared.faults.BitRingSwitchError.TheVariants.{RowVariables, PointTooNarrow, WidthMismatch, SuccessorBatching, BatchWidthMismatch, NoSuccessorView, WeightIndex, ClosingWidth}
use Rattle.refusals.specs.declared.faults.StepRefusal.{StepRefusal}
use Rattle.refusals.specs.declared.faults.StepRefusal.TheVariants.{Packing, RingSwitch}

pub record Refusal : Type 0 where
  pub number : ℕ
  pub values : List ℕ

abbrev with : ℕ → List ℕ → Refusal
with n vs = record { number = n; values = vs }

abbrev pub packing_refusal : BitPackingError → Refusal
packing_refusal LevelTooWide = with 8 []
packing_refusal (SubByteLevel bits) = with 9 (bits ∷ [])
packing_refusal (NotAHypercube cells) = with 10 (cells ∷ [])
packing_refusal (TooShort needed actual) = with 11 (needed ∷ actual ∷ [])

-- a Boolean value is told as 1 or 0
abbrev pub ring_switch_refusal : BitRingSwitchError → Refusal
ring_switch_refusal (RowVariables rows variables) = with 13 (rows ∷ variables ∷ [])
ring_switch_refusal (PointTooNarrow needed actual) = with 14 (needed ∷ actual ∷ [])
ring_switch_refusal (WidthMismatch expected actual) = with 16 (expected ∷ actual ∷ [])
ring_switch_refusal (SuccessorBatching expected) = with 17 (cond expected 1 0 ∷ [])
ring_switch_refusal (BatchWidthMismatch expected actual) = with 18 (expected ∷ actual ∷ [])
ring_switch_refusal NoSuccessorView = with 19 []
ring_switch_refusal (WeightIndex count index) = with 20 (count ∷ index ∷ [])
ring_switch_refusal (ClosingWidth expected actual) = with 21 (expected ∷ actual ∷ [])

abbrev pub refusal_of : StepRefusal → Refusal
refusal_of (Packing fault) = packing_refusal fault
refusal_of (RingSwitch fault) = ring_switch_refusal fault

-- the refusal that a result tells of, none where there is an answer
abbrev pub refused : {X E : Type 0} → (E → Refusal) → Result X E → Option Refusal
refused of (Ok x) = None
refused of (Err e) = Some (of e)
