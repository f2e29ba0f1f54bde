-- Settled weights, as they are written through tables of sums.
use Rattle.std.specs.Prelude.{ℕ, ◌/◌, ◌%◌, length}
use Rattle.level.specs.declared.level.Level.{Ghosts}
use Rattle.level.specs.Element.{Element}
use Rattle.multilinear.specs.Lent.{lent}
use Rattle.tensor_algebra.specs.Tensor.{subset_sum}
use Rattle.basis.specs.Tables.{scaled_weights}
use Rattle.equality.specs.Tables.{entries_of}
use Rattle.equality.specs.declared.factored.FactoredEquality.{FactoredEquality}

module _ {X : Type 0} (L : Ghosts X) (equality : FactoredEquality X) where
  -- the entries of the table that the factors hold
  abbrev pub entries : ℕ → Element L.log
  entries = entries_of L.means L.arithmetic equality.outer.now equality.inner.now

  -- entry i through tables of sums: what they give for each basis element scaled by the outer entry, summed over the set coordinates of the
  -- inner one
  abbrev pub through : (ℕ → Element L.log) → ℕ → Element L.log
  through sums i =
      let m = length equality.inner.now in
      subset_sum (scaled_weights L.arithmetic sums (lent L.means equality.outer.now (i / m))) (lent L.means equality.inner.now (i % m))
