-- The buckets of a sum of exterior products in a lent slice, and the rows of that sum.
--
-- The coordinates of an element take a number of bytes. Byte j has 256 buckets, one for each value s, at place 256·j + s.
use Rattle.std.specs.Prelude.{◌≡◌, ℕ, ◌+◌, ◌*◌, ◌<◌, ◌==◌}
use Rattle.level.specs.Element.{Element, plus, zeros}
use Rattle.level.specs.Bytes.{num_bytes}
use Rattle.multilinear.specs.Sums.{sum, where_set}
use Rattle.tensor_algebra.specs.Tensor.{exterior}
use Rattle.tensor_algebra.specs.Subsets.{byte}
use Rattle.tensor_algebra.specs.Buckets.{bucket}

-- every place is zero
abbrev pub Empty : {k : ℕ} → (ℕ → Element k) → Type 0
Empty {k} held = (i : ℕ) → held i ≡ zeros k

-- the term a ⊗ b is added: b, into one bucket of each byte of a
abbrev pub Added : {k : ℕ} → Element k → Element k → (ℕ → Element k) → (ℕ → Element k) → Type 0
Added {k} a b before after =
    (j s : ℕ) → j < num_bytes k → s < 256 → after (256 * j + s) ≡ plus (before (256 * j + s)) (where_set (byte a j == s) b)

-- the buckets of the first n terms a(w) ⊗ b(w)
abbrev pub Bucketed : {k : ℕ} → (ℕ → Element k) → (ℕ → Element k) → ℕ → (ℕ → Element k) → Type 0
Bucketed {k} a b n held = (j s : ℕ) → j < num_bytes k → s < 256 → held (256 * j + s) ≡ bucket a b n j s

-- the rows of the sum of those terms
abbrev pub Summed : {k : ℕ} → (ℕ → Element k) → (ℕ → Element k) → ℕ → (ℕ → Element k) → Type 0
Summed a b n rows = (u : ℕ) → rows u ≡ sum n (λ w. exterior (a w) (b w) u)
