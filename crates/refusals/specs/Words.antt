-- The words for each fault: those of p3-sumcheck 0.8.0 for each that it has.
use Rattle.std.specs.Prelude.{ℕ, true, false, List, ◌++◌, codes, decimal}
use Rattle.refusals.specs.declared.faults.BitPackingError.{BitPackingError}
use Rattle.refusals.specs.declared.faults.BitPackingError.TheVariants.{LevelTooWide, SubByteLevel, NotAHypercube, TooShort}
use Rattle.refusals.specs.declared.faults.BitRingSwitchError.{BitRingSwitchError}
use Rattle.refusals.specs.declared.faults.BitRingSwitchError.TheVariants.{RowVariables, PointTooNarrow, WidthMismatch, SuccessorBatching, BatchWidthMismatch, NoSuccessorView, WeightIndex, ClosingWidth}
use Rattle.refusals.specs.declared.faults.StepRefusal.{StepRefusal}
use Rattle.refusals.specs.declared.faults.StepRefusal.TheVariants.{Packing, RingSwitch}

abbrev pub packing_words : BitPackingError → List ℕ
packing_words LevelTooWide = codes "a level of over 128 bits cannot pack"
packing_words (SubByteLevel bits) = codes "a " ++ (decimal bits ++ codes "-bit level cannot pack a byte's worth of cells")
packing_words (NotAHypercube cells) = codes "a bit witness covers " ++ (decimal cells ++ codes " cells, which is no hypercube")
packing_words (TooShort needed actual) = codes "packing needs at least " ++ (decimal needed ++ (codes " bytes, got " ++ decimal actual))

abbrev pub ring_switch_words : BitRingSwitchError → List ℕ
ring_switch_words (RowVariables rows variables) =
    codes "the successor view names " ++ (decimal rows ++ (codes " row variables, the point " ++ decimal variables))
ring_switch_words (PointTooNarrow needed actual) =
    codes "the evaluation point names " ++ (decimal actual ++ (codes " variables, at least " ++ (decimal needed ++ codes " are needed")))
ring_switch_words (WidthMismatch expected actual) =
    codes "the reduction runs over " ++ (decimal expected ++ (codes " variables, got " ++ decimal actual))
ring_switch_words (SuccessorBatching true) = codes "the batching stage does not fit the reduction, successor challenge expected: true"
ring_switch_words (SuccessorBatching false) = codes "the batching stage does not fit the reduction, successor challenge expected: false"
ring_switch_words (BatchWidthMismatch expected actual) =
    codes "the batching challenge names " ++ (decimal actual ++ (codes " variables, expected " ++ decimal expected))
ring_switch_words NoSuccessorView = codes "the reduction was set up without a successor view"
ring_switch_words (WeightIndex count index) = codes "there are " ++ (decimal count ++ (codes " weights, none at index " ++ decimal index))
ring_switch_words (ClosingWidth expected actual) =
    codes "the slot runs over " ++ (decimal expected ++ (codes " variables, the closing point names " ++ decimal actual))

abbrev pub refusal_words : StepRefusal → List ℕ
refusal_words (Packing fault) = packing_words fault
refusal_words (RingSwitch fault) = ring_switch_words fault
