-- Products and small tables worked by hand, and one table by an independent program: at the tower byte, and one product at the polynomial byte.
use Rattle.std.specs.Prelude.{◌≡◌, ℕ, List, [], ◌∷◌, map, Some, None}
use Rattle.level.specs.Element.{Element, cut}
use Rattle.doubling.specs.Doubled.{tower}
use Rattle.polynomial.specs.Polynomial.{polynomial}
use Rattle.multilinear.specs.Cells.{cell}
use Rattle.multilinear.specs.Equality.{Point, equality}
use Rattle.tensor_algebra.specs.Tensor.{Tensor, one, first_leg, second_leg}
use Rattle.refusals.specs.Steps.{packing, opening}
use Rattle.ring_switch.specs.Opening.{Opening, View, Prefix, low, kept_rows, prefix, rest, slot_start}
use Rattle.ring_switch.specs.Claims.{incoming, successor_claim}
use Rattle.ring_switch.specs.Slots.{slot_table, slot_count}
use Rattle.ring_switch.specs.ClaimLaws.{opened, opened_carry, opened_last, value, value_one_row_on}
use Rattle.ring_switch.specs.Batching.{weight, initial_sum, closing_value}

abbrev point : List ℕ → Point 3
point xs = map (cut 3) xs

-- an opening at a point without a view, and with one that names q row variables
abbrev alone : List ℕ → Opening 3
alone p = record { point = point p; view = None }

abbrev viewed : List ℕ → ℕ → Opening 3
viewed p q = record { point = point p; view = Some q }

-- the equality tables of its absorbed coordinates and of its batching point
abbrev eq_low : Opening 3 → ℕ → Element 3
eq_low o = equality (tower 3) (low o)

abbrev batched : List ℕ → ℕ → Element 3
batched batching = equality (tower 3) (point batching)

-- the answers about bytes opened at a point, with q row variables, a batching point and a challenge
abbrev pub incoming_of : List ℕ → List ℕ → ℕ
incoming_of bytes p = (incoming (tower 3) (eq_low (alone p)) (opened (tower 3) (alone p) (cell bytes))).number

abbrev pub successor_of : List ℕ → List ℕ → ℕ → ℕ
successor_of bytes p q =
    let o = viewed p q in
    (successor_claim (tower 3) (eq_low o) q (opened (tower 3) o (cell bytes)) (opened_carry (tower 3) o (cell bytes)) (opened_last (tower 3) o (cell bytes))).number

abbrev pub initial_of : List ℕ → List ℕ → ℕ → List ℕ → ℕ → ℕ
initial_of bytes p q batching α =
    let o = viewed p q in
    let t = opened (tower 3) o (cell bytes) in
    (initial_sum (tower 3) (batched batching) (Some (cut 3 α)) t (opened_carry (tower 3) o (cell bytes)) (opened_last (tower 3) o (cell bytes))).number

abbrev pub weight_of : List ℕ → ℕ → List ℕ → ℕ → ℕ → ℕ
weight_of p q batching α i =
    let o = viewed p q in
    (weight (tower 3) (batched batching) (slot_table (tower 3) o) (kept_rows o) (Some (cut 3 α)) i).number

abbrev pub closing_of : List ℕ → ℕ → List ℕ → ℕ → List ℕ → ℕ
closing_of p q batching α z =
    let o = viewed p q in
    (closing_value (tower 3) (batched batching) (rest (tower 3) o) (kept_rows o) (Some (cut 3 α)) (point z)).number

-- the multilinear value of the bits at a point, and that of the bits one row on with q row variables
abbrev pub value_of : List ℕ → List ℕ → ℕ
value_of bytes p = (value (tower 3) (alone p) (cell bytes)).number

abbrev pub value_one_row_on_of : List ℕ → List ℕ → ℕ → ℕ
value_one_row_on_of bytes p q = (value_one_row_on (tower 3) (viewed p q) (cell bytes)).number

-- the prefix of an opening and where its slot begins
abbrev pub prefix_of : List ℕ → View → Prefix
prefix_of p view = prefix (tower 3) (record { point = point p; view = view })

abbrev pub start_of : List ℕ → View → ℕ
start_of p view = slot_start (tower 3) (record { point = point p; view = view })

-- the first two rows of a tensor
abbrev pub two_rows : Tensor 3 → List ℕ
two_rows t = (t 0).number ∷ (t 1).number ∷ []

-- how many weights an opening has
abbrev pub weights_of : List ℕ → ℕ → ℕ
weights_of p q = slot_count (tower 3) (viewed p q)

pub record Worked : Type 0 where
  pub tower_02_02 : ((tower 3).times (cut 3 0x02) (cut 3 0x02)).number ≡ 0x03
  pub tower_02_03 : ((tower 3).times (cut 3 0x02) (cut 3 0x03)).number ≡ 0x01
  pub tower_10_10 : ((tower 3).times (cut 3 0x10) (cut 3 0x10)).number ≡ 0x41
  pub polynomial_57_83 : (polynomial.times (cut 3 0x57) (cut 3 0x83)).number ≡ 0xc1
  pub no_bytes : packing 3 0 ≡ Some (record { number = 10; values = 0 ∷ [] })
  pub no_bytes_at_a_bit : packing 0 0 ≡ Some (record { number = 9; values = 1 ∷ [] })
  pub more_rows_than_coordinates : opening 3 2 (Some 3) ≡ Some (record { number = 13; values = 3 ∷ 2 ∷ [] })
  pub fewer_coordinates_than_absorbed : opening 3 2 (Some 2) ≡ Some (record { number = 14; values = 3 ∷ 2 ∷ [] })
  pub tensor_one : two_rows (one (tower 3)) ≡ 0x01 ∷ 0x00 ∷ []
  pub tensor_first_leg : two_rows (first_leg (tower 3) (cut 3 0x03)) ≡ 0x01 ∷ 0x01 ∷ []
  pub tensor_second_leg : two_rows (second_leg (tower 3) (cut 3 0x03)) ≡ 0x03 ∷ 0x00 ∷ []
  pub incoming_at_coordinate_4 : incoming_of (0x10 ∷ []) (0x02 ∷ 0x00 ∷ 0x00 ∷ []) ≡ 0x02
  pub successor_one_row_variable : successor_of (0x02 ∷ []) (0x00 ∷ 0x00 ∷ 0x00 ∷ []) 1 ≡ 0x01
  pub successor_no_row_variable : successor_of (0x02 ∷ []) (0x00 ∷ 0x00 ∷ 0x00 ∷ []) 0 ≡ 0x00
  pub last_row_reads_itself : successor_of (0x01 ∷ 0x00 ∷ []) (0x01 ∷ 0x01 ∷ 0x01 ∷ 0x01 ∷ []) 4 ≡ 0x00
  pub last_row_is_repeated : successor_of (0x00 ∷ 0x80 ∷ []) (0x01 ∷ 0x01 ∷ 0x01 ∷ 0x01 ∷ []) 4 ≡ 0x01
  pub step_incoming : incoming_of (0x00 ∷ 0x01 ∷ []) (0x00 ∷ 0x01 ∷ 0x01 ∷ 0x01 ∷ []) ≡ 0x00
  pub step_successor : successor_of (0x00 ∷ 0x01 ∷ []) (0x00 ∷ 0x01 ∷ 0x01 ∷ 0x01 ∷ []) 4 ≡ 0x01
  pub step_initial : initial_of (0x00 ∷ 0x01 ∷ []) (0x00 ∷ 0x01 ∷ 0x01 ∷ 0x01 ∷ []) 4 (0x00 ∷ 0x00 ∷ 0x00 ∷ []) 0x02 ≡ 0x02
  pub step_weights : weights_of (0x00 ∷ 0x01 ∷ 0x01 ∷ 0x01 ∷ []) 4 ≡ 2
  pub step_weight_0 : weight_of (0x00 ∷ 0x01 ∷ 0x01 ∷ 0x01 ∷ []) 4 (0x00 ∷ 0x00 ∷ 0x00 ∷ []) 0x02 0 ≡ 0x01
  pub step_weight_1 : weight_of (0x00 ∷ 0x01 ∷ 0x01 ∷ 0x01 ∷ []) 4 (0x00 ∷ 0x00 ∷ 0x00 ∷ []) 0x02 1 ≡ 0x02
  pub step_closing_at_01 : closing_of (0x00 ∷ 0x01 ∷ 0x01 ∷ 0x01 ∷ []) 4 (0x00 ∷ 0x00 ∷ 0x00 ∷ []) 0x02 (0x01 ∷ []) ≡ 0x02
  pub step_closing_at_02 : closing_of (0x00 ∷ 0x01 ∷ 0x01 ∷ 0x01 ∷ []) 4 (0x00 ∷ 0x00 ∷ 0x00 ∷ []) 0x02 (0x02 ∷ []) ≡ 0x00
  pub value_at_coordinate_4 : value_of (0x10 ∷ []) (0x02 ∷ 0x00 ∷ 0x00 ∷ []) ≡ 0x02
  pub value_one_row_variable : value_one_row_on_of (0x02 ∷ []) (0x00 ∷ 0x00 ∷ 0x00 ∷ []) 1 ≡ 0x01
  pub value_no_row_variable : value_one_row_on_of (0x02 ∷ []) (0x00 ∷ 0x00 ∷ 0x00 ∷ []) 0 ≡ 0x00
  pub value_reads_itself : value_one_row_on_of (0x01 ∷ 0x00 ∷ []) (0x01 ∷ 0x01 ∷ 0x01 ∷ 0x01 ∷ []) 4 ≡ 0x00
  pub value_is_repeated : value_one_row_on_of (0x00 ∷ 0x80 ∷ []) (0x01 ∷ 0x01 ∷ 0x01 ∷ 0x01 ∷ []) 4 ≡ 0x01
  pub slot_without_view : prefix_of (0x01 ∷ 0x00 ∷ 0x04 ∷ 0x05 ∷ 0x06 ∷ []) None ≡ record { count = 2; address = 2 }
  pub slot_start_without_view : start_of (0x01 ∷ 0x00 ∷ 0x04 ∷ 0x05 ∷ 0x06 ∷ []) None ≡ 2
  pub slot_with_view : prefix_of (0x01 ∷ 0x00 ∷ 0x04 ∷ 0x05 ∷ 0x06 ∷ []) (Some 4) ≡ record { count = 1; address = 1 }
  pub slot_start_with_view : start_of (0x01 ∷ 0x00 ∷ 0x04 ∷ 0x05 ∷ 0x06 ∷ []) (Some 4) ≡ 2
  pub two_columns_incoming : incoming_of (0x12 ∷ 0x34 ∷ 0x56 ∷ 0x78 ∷ []) (0x03 ∷ 0x02 ∷ 0x04 ∷ 0x05 ∷ 0x06 ∷ []) ≡ 0x06
  pub two_columns_successor : successor_of (0x12 ∷ 0x34 ∷ 0x56 ∷ 0x78 ∷ []) (0x03 ∷ 0x02 ∷ 0x04 ∷ 0x05 ∷ 0x06 ∷ []) 4 ≡ 0x03
  pub two_columns_initial : initial_of (0x12 ∷ 0x34 ∷ 0x56 ∷ 0x78 ∷ []) (0x03 ∷ 0x02 ∷ 0x04 ∷ 0x05 ∷ 0x06 ∷ []) 4 (0x02 ∷ 0x03 ∷ 0x07 ∷ []) 0x05 ≡ 0x1a
  pub two_columns_weights : map (weight_of (0x03 ∷ 0x02 ∷ 0x04 ∷ 0x05 ∷ 0x06 ∷ []) 4 (0x02 ∷ 0x03 ∷ 0x07 ∷ []) 0x05) (0 ∷ 1 ∷ 2 ∷ 3 ∷ []) ≡ 0x06 ∷ 0x0e ∷ 0x07 ∷ 0x06 ∷ []
  pub two_columns_closing : closing_of (0x03 ∷ 0x02 ∷ 0x04 ∷ 0x05 ∷ 0x06 ∷ []) 4 (0x02 ∷ 0x03 ∷ 0x07 ∷ []) 0x05 (0x05 ∷ 0x07 ∷ []) ≡ 0x07
  pub four_weights : weights_of (0x00 ∷ 0x00 ∷ 0x01 ∷ 0x01 ∷ 0x01 ∷ []) 5 ≡ 4
  pub four_weights_low : map (weight_of (0x00 ∷ 0x00 ∷ 0x01 ∷ 0x01 ∷ 0x01 ∷ []) 5 (0x00 ∷ 0x00 ∷ 0x00 ∷ []) 0x02) (0 ∷ 1 ∷ 2 ∷ 3 ∷ []) ≡ 0x01 ∷ 0x02 ∷ 0x00 ∷ 0x00 ∷ []
  pub four_weights_high : map (weight_of (0x01 ∷ 0x01 ∷ 0x01 ∷ 0x01 ∷ 0x01 ∷ []) 5 (0x00 ∷ 0x00 ∷ 0x00 ∷ []) 0x02) (0 ∷ 1 ∷ 2 ∷ 3 ∷ []) ≡ 0x00 ∷ 0x00 ∷ 0x00 ∷ 0x02 ∷ []
