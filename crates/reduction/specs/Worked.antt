-- What a stretch for points of up to c coordinates holds once the tensors of an opening are formed, and once it is batched.
use Rattle.std.specs.Prelude.{◌≡◌, ℕ, ◌<◌, List, map, take, length, Option}
use Rattle.level.specs.Element.{Element, width}
use Rattle.level.specs.Laws.{Arithmetic}
use Rattle.level.specs.declared.level.Level.{Ghosts}
use Rattle.multilinear.specs.Cells.{packed}
use Rattle.multilinear.specs.Equality.{Point}
use Rattle.multilinear.specs.Lent.{lent}
use Rattle.tensor_algebra.specs.Tensor.{Tensor}
use Rattle.ring_switch.specs.Opening.{Opening, named, low, rest, kept_rows}
use Rattle.ring_switch.specs.Claims.{tensor, carry, last, incoming, successor_claim}
use Rattle.ring_switch.specs.Slots.{packed_count, table, slot_table, slot_count}
use Rattle.ring_switch.specs.Batching.{weight, initial_sum}
use Rattle.equality.specs.Tables.{Tabulated, Factors}
use Rattle.reduction.specs.Layout.{part, outer_start, inner_start, tensor_start, carry_start, last_start, low_start, batching_start, table_start, weights_start, outer_entries, inner_entries}
use Rattle.reduction.specs.Stretch.{opening_at, point_in, opening_in, rows_in}
use Rattle.reduction.specs.declared.opened.Opened.{Opened}

-- two slices begin with the factors of a point's equality table
abbrev pub BeginFactors : {X : Type 0} {k : ℕ} → (X → Element k) → Arithmetic k → Point k → List X → List X → Type 0
BeginFactors means A p outers inners = Factors means A A.unit p (take (outer_entries (length p)) outers) (take (inner_entries (length p)) inners)

-- the tensor, the carry and the last of packed elements t at an opening
abbrev pub tensor_at : {k : ℕ} → Arithmetic k → Opening k → (ℕ → Element k) → Tensor k
tensor_at A o t = tensor (packed_count o) (table A o) t

abbrev pub carry_at : {k : ℕ} → Arithmetic k → Opening k → (ℕ → Element k) → Tensor k
carry_at A o t = carry (kept_rows o) (packed_count o) (table A o) t

abbrev pub last_at : {k : ℕ} → Arithmetic k → Opening k → (ℕ → Element k) → Tensor k
last_at A o t = last (kept_rows o) (packed_count o) (table A o) t

-- the weights of the slot of an opening at the point that elements are, by the batching weights f of an element's coordinates
abbrev pub weight_at : {X : Type 0} (L : Ghosts X) → Opened → List X → (ℕ → Element L.log) → Option (Element L.log) → ℕ → Element L.log
weight_at L o xs f α = let p = opening_at L o xs in weight L.arithmetic f (slot_table L.arithmetic p) (kept_rows p) α

-- a slice begins with them
abbrev pub BeginWeights : {X : Type 0} (L : Ghosts X) → Opened → List X → (ℕ → Element L.log) → Option (Element L.log) → List X → Type 0
BeginWeights L o xs f α weights = (i : ℕ) → i < slot_count L.arithmetic (opening_at L o xs) → lent L.means weights i ≡ weight_at L o xs f α i

module _ {X : Type 0} (L : Ghosts X) (c : ℕ) where
  -- the places of the factors begin with those of a slot's equality table
  abbrev pub SlotFactors : Point L.log → List X → Type 0
  SlotFactors slot xs =
      Factors L.means L.arithmetic L.arithmetic.unit slot (part (outer_start L.log c) (outer_entries (length slot)) xs)
      (part (inner_start L.log c) (inner_entries (length slot)) xs)

  -- the equality table of the coordinates that an element absorbs stands in its place
  abbrev pub LowTable : Opening L.log → List X → Type 0
  LowTable p xs = Tabulated L.means L.arithmetic L.arithmetic.unit (low p) (part (low_start L.log c) (width L.log) xs)

  -- the tensor, the carry and the last of the packed elements that the stretch holds, at an opening in it
  abbrev pub tensor_in : Opened → List X → Tensor L.log
  tensor_in o xs = tensor_at L.arithmetic (opening_in L c o xs) (lent L.means xs)

  abbrev pub carry_in : Opened → List X → Tensor L.log
  carry_in o xs = carry_at L.arithmetic (opening_in L c o xs) (lent L.means xs)

  abbrev pub last_in : Opened → List X → Tensor L.log
  last_in o xs = last_at L.arithmetic (opening_in L c o xs) (lent L.means xs)

  -- The tables and tensors of an opening, of the packed elements that the stretch holds; carry and last where they are sent.
  pub record Worked (o : Opened) (xs : List X) : Type 0 where
    pub factors : SlotFactors (rest L.arithmetic (opening_in L c o xs)) xs
    pub tensor_is : rows_in L (tensor_start L.log c) xs ≡ tensor_in o xs
    pub carry_is : L.log < named o.view → rows_in L (carry_start L.log c) xs ≡ carry_in o xs
    pub last_is : L.log < named o.view → rows_in L (last_start L.log c) xs ≡ last_in o xs
    pub low_is : LowTable (opening_in L c o xs) xs

  -- the incoming claim of the tensor
  abbrev pub incoming_in : List X → Element L.log
  incoming_in xs = incoming L.arithmetic (rows_in L (low_start L.log c) xs) (rows_in L (tensor_start L.log c) xs)

  -- the successor claim of the tensors, under a view of q row variables
  abbrev pub successor_in : ℕ → List X → Element L.log
  successor_in q xs =
      successor_claim L.arithmetic (rows_in L (low_start L.log c) xs) q (rows_in L (tensor_start L.log c) xs) (rows_in L (carry_start L.log c) xs)
      (rows_in L (last_start L.log c) xs)

  -- the batching point, and the weights of the slot
  abbrev pub batching_in : List X → Point L.log
  batching_in xs = map L.means (part (batching_start L.log c) L.log xs)

  abbrev pub weights_in : Opened → List X → List X
  weights_in o xs = part (weights_start L.log c) (slot_count L.arithmetic (opening_in L c o xs)) xs

  -- the weight of each entry of the slot, under a challenge or none, by the equality table of the batching point that the stretch holds
  abbrev pub weight_in : Opened → Option (Element L.log) → List X → ℕ → Element L.log
  weight_in o α xs = weight_at L o (point_in L c o xs) (rows_in L (table_start L.log c) xs) α

  -- the initial sum of the tensors, by the same
  abbrev pub initial_in : Option (Element L.log) → List X → Element L.log
  initial_in α xs =
      initial_sum L.arithmetic (rows_in L (table_start L.log c) xs) α (rows_in L (tensor_start L.log c) xs) (rows_in L (carry_start L.log c) xs)
      (rows_in L (last_start L.log c) xs)

  -- the table of the batching point, and the weights
  pub record Batched (o : Opened) (α : Option (Element L.log)) (xs : List X) : Type 0 where
    pub table_is : Tabulated L.means L.arithmetic L.arithmetic.unit (batching_in xs) (part (table_start L.log c) (width L.log) xs)
    pub weights_are : (i : ℕ) → i < slot_count L.arithmetic (opening_in L c o xs) → lent L.means (weights_in o xs) i ≡ weight_in o α xs i

  -- the packed elements that the stretch holds are those of a table of bits
  abbrev pub Packs : Opened → (ℕ → ℕ) → List X → Type 0
  Packs o bits xs = (w : ℕ) → w < packed_count (opening_in L c o xs) → lent L.means xs w ≡ packed L.log bits w
