-- The opening of a packed table at a point: its high and low coordinates, the view, and the slot that leading zeros and ones select.
use Rattle.std.specs.Prelude.{ℕ, zero, suc, ◌+◌, ◌-◌, ◌*◌, ◌^◌, min, cond, [], ◌∷◌, length, take, drop, Some, None, Option, ◌==◌, nat_lt}
use Rattle.level.specs.Element.{Element}
use Rattle.level.specs.Laws.{Arithmetic}
use Rattle.multilinear.specs.Equality.{Point}

-- how many row variables a view has; without one no successor is asked for
abbrev pub View : Type 0
View = Option ℕ

-- how many row variables a view names, none where there is no view
abbrev pub named : View → ℕ
named None = 0
named (Some q) = q

-- an opening of a table of bits: the point, and the view or none
pub record Opening (k : ℕ) : Type 0 where
  pub point : Point k
  pub view : View

-- how many coordinates the packing keeps: those of the point but for the k that an element absorbs
abbrev pub variables : {k : ℕ} → Opening k → ℕ
variables {k} o = length o.point - k

-- the kept coordinates, which lead the point, and the absorbed ones
abbrev pub high : {k : ℕ} → Opening k → Point k
high o = take (variables o) o.point

abbrev pub low : {k : ℕ} → Opening k → Point k
low o = drop (variables o) o.point

-- how many row variables the packing keeps: those past the k that an element absorbs
abbrev pub kept_rows : {k : ℕ} → Opening k → ℕ
kept_rows {k} o = named o.view - k

-- the same where it keeps any, and then successor tensors are sent
unfoldable pub kept : ℕ → View → Option ℕ
kept k None = None
kept k (Some q) = cond (nat_lt k q) (Some (q - k)) None

-- how many leading coordinates of a point of n may select a slot: kept ones that are no row coordinates
unfoldable pub limit : ℕ → ℕ → View → ℕ
limit k n view = min (n - k) (n - named view)

-- how many leading coordinates select the slot, and the address that they spell, most significant first
pub record Prefix : Type 0 where
  pub count : ℕ
  pub address : ℕ

-- 0 for zero, 1 for one, 2 for any other element
unfoldable pub selects : {k : ℕ} → Arithmetic k → Element k → ℕ
selects A x = cond (x.number == 0) 0 (cond (x.number == A.unit.number) 1 2)

-- one more coordinate in front of a run
unfoldable pub lead : ℕ → Prefix → Prefix
lead zero r = record { count = suc r.count; address = r.address }
lead (suc zero) r = record { count = suc r.count; address = 2 ^ r.count + r.address }
lead (suc (suc b)) r = record { count = 0; address = 0 }

-- the longest run of leading coordinates that are zero or one
unfoldable pub run : {k : ℕ} → Arithmetic k → Point k → Prefix
run A [] = record { count = 0; address = 0 }
run A (x ∷ p) = lead (selects A x) (run A p)

-- the prefix of an opening
unfoldable pub prefix : {k : ℕ} → Arithmetic k → Opening k → Prefix
prefix {k} A o = run A (take (limit k (length o.point) o.view) (high o))

-- the kept coordinates after the prefix: those of the slot
unfoldable pub rest : {k : ℕ} → Arithmetic k → Opening k → Point k
rest A o = drop (prefix A o).count (high o)

-- the first packed element of the slot, which holds 2^(m - prefix) of them
unfoldable pub slot_start : {k : ℕ} → Arithmetic k → Opening k → ℕ
slot_start A o = (prefix A o).address * 2 ^ length (rest A o)
