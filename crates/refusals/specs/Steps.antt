-- Which refusal each step meets, over its arguments alone: that of the first of its tests that is not passed.
-- k is a level's log width, and where a step may meet a level of any width, the one that it tells.
use Rattle.std.specs.Prelude.{◌≡◌, ℕ, ◌-◌, ◌*◌, ◌^◌, min, Bool, true, false, cond, not, ◌&&◌, Some, None, Decides, Option, ◌==◌, count_ones, nat_lt}
use Rattle.level.specs.Bytes.{num_bytes}
use Rattle.refusals.specs.Refusals.{Refusal, packing_refusal, ring_switch_refusal}
use Rattle.refusals.specs.declared.faults.BitPackingError.{BitPackingError}
use Rattle.refusals.specs.declared.faults.BitPackingError.TheVariants.{LevelTooWide, SubByteLevel, NotAHypercube, TooShort}
use Rattle.refusals.specs.declared.faults.BitRingSwitchError.{BitRingSwitchError}
use Rattle.refusals.specs.declared.faults.BitRingSwitchError.TheVariants.{RowVariables, PointTooNarrow, WidthMismatch, SuccessorBatching, BatchWidthMismatch, NoSuccessorView, WeightIndex, ClosingWidth}

-- the log width that a level of log width k tells: 8 stands for every wider level
abbrev pub told : ℕ → ℕ
told k = min k 8

abbrev packing_meets : BitPackingError → Option Refusal
packing_meets e = Some (packing_refusal e)

abbrev meets : BitRingSwitchError → Option Refusal
meets e = Some (ring_switch_refusal e)

-- exactly one binary digit is 1
abbrev pub power_of_two : ℕ → Bool
power_of_two n = count_ones n == 1

abbrev pub PowersOfTwo : Type 0
PowersOfTwo = (n : ℕ) → Decides (power_of_two n) ((e : ℕ) × (n ≡ 2 ^ e))

-- the first refusal of two steps, one after the other
abbrev pub first : Option Refusal → Option Refusal → Option Refusal
first None s = s
first (Some r) s = Some r

-- packing n bytes, each of eight cells, at a level that tells k
abbrev pub packing : ℕ → ℕ → Option Refusal
packing k n =
    cond (nat_lt 7 k) (packing_meets LevelTooWide)
    (cond (nat_lt (2 ^ k) 8) (packing_meets (SubByteLevel (2 ^ k)))
    (cond (not (power_of_two (8 * n))) (packing_meets (NotAHypercube (min (8 * n) (2 ^ 64 - 1))))
    (cond (nat_lt n (num_bytes k)) (packing_meets (TooShort (num_bytes k) n)) None)))

-- a point of n coordinates, of which an element of log width k absorbs k
abbrev pub wide_enough : ℕ → ℕ → Option Refusal
wide_enough k n = cond (nat_lt n k) (meets (PointTooNarrow k n)) None

-- opening at a point of n coordinates, with a view of q row variables or none
abbrev pub opening : ℕ → ℕ → Option ℕ → Option Refusal
opening k n None = wide_enough k n
opening k n (Some q) = cond (nat_lt n q) (meets (RowVariables q n)) (wide_enough k n)

-- a packing of 2^actual elements, at an opening that keeps m coordinates
abbrev pub width : ℕ → ℕ → Option Refusal
width m actual = cond (actual == m) None (meets (WidthMismatch m actual))

-- batching at a point of b coordinates: a challenge is given exactly where successor tensors are sent
abbrev pub batching : ℕ → Bool → Bool → ℕ → Option Refusal
batching k sent challenged b =
    cond (sent && not challenged) (meets (SuccessorBatching true))
    (cond (challenged && not sent) (meets (SuccessorBatching false))
    (cond (b == k) None (meets (BatchWidthMismatch k b))))

-- a successor claim, with a view or without
abbrev pub successor : Option ℕ → Option Refusal
successor None = meets NoSuccessorView
successor (Some q) = None

-- the weight of an index, where there are so many weights
abbrev pub weight : ℕ → ℕ → Option Refusal
weight count index = cond (nat_lt index count) None (meets (WeightIndex count index))

-- closing at a point of so many coordinates, where the slot has as many as expected
abbrev pub closing : ℕ → ℕ → Option Refusal
closing expected actual = cond (actual == expected) None (meets (ClosingWidth expected actual))
