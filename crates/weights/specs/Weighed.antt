-- The weights of a table that is held in factors, under a batching.
use Rattle.std.specs.Prelude.{ℕ}
use Rattle.std.specs.Option.{option_map}
use Rattle.level.specs.declared.level.Level.{Ghosts}
use Rattle.level.specs.Element.{Element}
use Rattle.equality.specs.declared.factored.FactoredEquality.{FactoredEquality}
use Rattle.ring_switch.specs.Opening.{kept_rows}
use Rattle.ring_switch.specs.Batching.{weight}
use Rattle.opening.specs.Openings.{opening_of}
use Rattle.opening.specs.Batches.{rows_of}
use Rattle.opening.specs.declared.batch.BitRingSwitchBatch.{BitRingSwitchBatch}
use Rattle.weights.specs.Settled.{entries}

-- the weight of each entry of the table, over the columns of the rows that the packing keeps
abbrev pub weighed : {X : Type 0} (L : Ghosts X) → BitRingSwitchBatch X L → FactoredEquality X → ℕ → Element L.log
weighed L b equality =
    weight L.arithmetic (rows_of L b) (entries L equality) (kept_rows (opening_of L b.reduction)) (option_map L.means b.alpha)
