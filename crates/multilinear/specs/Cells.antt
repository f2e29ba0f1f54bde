-- A table of bits held in bytes, its packing into elements, and the same bits one row on.
use Rattle.std.specs.Prelude.{ℕ, zero, suc, ◌+◌, ◌-◌, ◌*◌, ◌/◌, ◌%◌, ◌^◌, cond, List, ◌==◌, slice_index}
use Rattle.level.specs.Element.{Element, width, zeros}
use Rattle.level.specs.Laws.{Arithmetic}
use Rattle.multilinear.specs.Gathered.{binary, binary_fits}

-- the cells of bytes: byte b holds cells 8b to 8b + 7, the least bit first
unfoldable pub cell : List ℕ → ℕ → ℕ
cell bytes c = slice_index bytes (c / 8) / 2 ^ (c % 8) % 2

-- a bit standing for zero or one
unfoldable pub standing : {k : ℕ} → Arithmetic k → ℕ → Element k
standing {k} A zero = zeros k
standing A (suc b) = A.unit

-- the element whose coordinate v is the binary digit f(v)
unfoldable pub gather : (k : ℕ) → (ℕ → ℕ) → Element k
gather k f = record { number = binary (width k) f; fits = binary_fits (width k) f }

-- packed element w of a table of bits: its coordinate v is cell w·d + v
unfoldable pub packed : (k : ℕ) → (ℕ → ℕ) → ℕ → Element k
packed k bits w = gather k (λ v. bits (w * width k + v))

-- the successor of a cell under a view that names q row variables: the next cell, or the cell itself at the last row of its column
unfoldable pub successor : ℕ → ℕ → ℕ
successor q c = cond (c % 2 ^ q == 2 ^ q - 1) c (c + 1)

-- the bits that the successors of the cells hold: each row shows the one after it, and the last row itself
unfoldable pub one_row_on : ℕ → (ℕ → ℕ) → ℕ → ℕ
one_row_on q bits c = bits (successor q c)
