-- Where the parts of a stretch lie, by the log k of an element's coordinates and the largest number c of a point's coordinates.
use Rattle.std.specs.Prelude.{ℕ, ◌+◌, ◌-◌, ◌*◌, ◌^◌, ◌≤◌, List, take, drop}
use Rattle.level.specs.Element.{width}
use Rattle.level.specs.Bytes.{num_bytes}
use Rattle.multilinear.specs.Equality.{inner_count}

-- so many elements from a place on
abbrev pub part : {X : Type 0} → ℕ → ℕ → List X → List X
part start n xs = take n (drop start xs)

-- how many packed elements there are at most; they stand at 0
abbrev pub most : ℕ → ℕ → ℕ
most k c = 2 ^ (c - k)

abbrev pub point_start : ℕ → ℕ → ℕ
point_start k c = most k c

-- the two factors of the slot's equality table
abbrev pub outer_start : ℕ → ℕ → ℕ
outer_start k c = point_start k c + c

abbrev pub inner_start : ℕ → ℕ → ℕ
inner_start k c = outer_start k c + most k c

-- the tensor, the carry, the last, and the equality table of the absorbed coordinates
abbrev pub tensor_start : ℕ → ℕ → ℕ
tensor_start k c = inner_start k c + most k c

abbrev pub carry_start : ℕ → ℕ → ℕ
carry_start k c = tensor_start k c + width k

abbrev pub last_start : ℕ → ℕ → ℕ
last_start k c = carry_start k c + width k

abbrev pub low_start : ℕ → ℕ → ℕ
low_start k c = last_start k c + width k

-- the batching point, its equality table, and the weights
abbrev pub batching_start : ℕ → ℕ → ℕ
batching_start k c = low_start k c + width k

abbrev pub table_start : ℕ → ℕ → ℕ
table_start k c = batching_start k c + width k

abbrev pub weights_start : ℕ → ℕ → ℕ
weights_start k c = table_start k c + width k

-- what no step reads of another: the shifted inner factor, and scratch
abbrev pub spare_start : ℕ → ℕ → ℕ
spare_start k c = weights_start k c + most k c

abbrev pub scratch_start : ℕ → ℕ → ℕ
scratch_start k c = spare_start k c + most k c

abbrev pub layout_end : ℕ → ℕ → ℕ
layout_end k c = scratch_start k c + 3 * width k + 512 * num_bytes k

-- how many entries the outer and the inner factor of the equality table of l coordinates have
abbrev pub outer_entries : ℕ → ℕ
outer_entries l = 2 ^ (l - inner_count l)

abbrev pub inner_entries : ℕ → ℕ
inner_entries l = 2 ^ inner_count l

pub record LayoutFits : Type 0 where
  -- the parts end within the elements that a stretch for c coordinates is allowed
  pub within : (k c : ℕ) → k ≤ c → layout_end k c ≤ c + 6 * 2 ^ (c - k) + 16 * width k + 768 * num_bytes k
  -- the factors of every slot, and the batching point, have room in their parts
  pub outer : (k c l : ℕ) → l ≤ c - k → outer_entries l ≤ most k c
  pub inner : (k c l : ℕ) → l ≤ c - k → inner_entries l ≤ most k c
  pub batching : (k : ℕ) → k ≤ width k
  -- and the folds, the weights and the closing value in the scratch
  pub fold : (k : ℕ) → 256 * num_bytes k + width k ≤ 3 * width k + 512 * num_bytes k
