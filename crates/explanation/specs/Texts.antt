-- The lines of a batching's weights.
use Rattle.std.specs.Prelude.{List, ℕ, codes}
use Rattle.level.specs.declared.level.Level.{Ghosts}
use Rattle.element_text.specs.Hex.{element_text}
use Rattle.ring_switch.specs.Slots.{slot_count}
use Rattle.opening.specs.Openings.{opening_of}
use Rattle.opening.specs.Batches.{weights_of}
use Rattle.opening.specs.declared.batch.BitRingSwitchBatch.{BitRingSwitchBatch}
use Rattle.report_lines.specs.Lines.{line}
use Rattle.report_lines.specs.Report.{lines_below}

abbrev pub weights_text : {X : Type 0} (L : Ghosts X) → BitRingSwitchBatch X L → List ℕ
weights_text L b =
    lines_below (slot_count L.arithmetic (opening_of L b.reduction)) (λ i. line (codes "weight") (element_text (weights_of L b i)))
