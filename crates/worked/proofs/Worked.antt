-- The worked cases, by computing.
use Rattle.std.proofs.Common.{refl}
use lib.Count.{ones, ones_in}
use Rattle.level.specs.Element.{cut, plus, zeros}
use Rattle.doubling.specs.Doubled.{tower, doubled, low, high, join}
use Rattle.polynomial.specs.Polynomial.{polynomial, reduced, divided, product as poly_product, rows}
use Rattle.multilinear.specs.Sums.{sum, at_bit, where_set}
use Rattle.multilinear.specs.Gathered.{binary}
use Rattle.multilinear.specs.Cells.{cell, standing, packed, gather, successor, one_row_on}
use Rattle.multilinear.specs.Equality.{entry, factor, multilinear}
use Rattle.tensor_algebra.specs.Tensor.{exterior, column, add, nothing, one, first_leg, second_leg, scale_rows, scale_columns, equality_factor, product, equality_element, successor_element, equality_factors, subset_sum, batch_rows, by_columns}
use Rattle.ring_switch.specs.Opening.{kept, limit, selects, lead, run, prefix, rest, slot_start}
use Rattle.ring_switch.specs.Claims.{tensor, carry, last, incoming, successor_claim, inside, across}
use Rattle.ring_switch.specs.Batching.{settled, weight, successor_rows, initial_sum, carry_element, last_element, closing_value}
use Rattle.worked.specs.Cases.{Worked}

pub worked : Worked
unfolding ones ones_in polynomial reduced divided poly_product rows cut plus zeros tower doubled low high join sum at_bit where_set binary cell standing packed gather successor one_row_on entry factor multilinear exterior column add nothing one first_leg second_leg scale_rows scale_columns equality_factor product equality_element successor_element equality_factors subset_sum batch_rows kept limit selects lead run prefix rest slot_start tensor carry last incoming successor_claim by_columns inside across settled weight successor_rows initial_sum carry_element last_element closing_value
worked = record {
  tower_02_02 = refl;
  tower_02_03 = refl;
  tower_10_10 = refl;
  polynomial_57_83 = refl;
  no_bytes = refl;
  no_bytes_at_a_bit = refl;
  more_rows_than_coordinates = refl;
  fewer_coordinates_than_absorbed = refl;
  tensor_one = refl;
  tensor_first_leg = refl;
  tensor_second_leg = refl;
  incoming_at_coordinate_4 = refl;
  successor_one_row_variable = refl;
  successor_no_row_variable = refl;
  last_row_reads_itself = refl;
  last_row_is_repeated = refl;
  step_incoming = refl;
  step_successor = refl;
  step_initial = refl;
  step_weights = refl;
  step_weight_0 = refl;
  step_weight_1 = refl;
  step_closing_at_01 = refl;
  step_closing_at_02 = refl;
  value_at_coordinate_4 = refl;
  value_one_row_variable = refl;
  value_no_row_variable = refl;
  value_reads_itself = refl;
  value_is_repeated = refl;
  slot_without_view = refl;
  slot_start_without_view = refl;
  slot_with_view = refl;
  slot_start_with_view = refl;
  two_columns_incoming = refl;
  two_columns_successor = refl;
  two_columns_initial = refl;
  two_columns_weights = refl;
  two_columns_closing = refl;
  four_weights = refl;
  four_weights_low = refl;
  four_weights_high = refl;
}
