-- The words for why lines end early.
use Rattle.std.specs.Prelude.{ℕ, List, ◌++◌, codes, decimal}
use Rattle.refusals.specs.Refusals.{refusal_of}
use Rattle.report_lines.specs.declared.stop.Stop.{Stop}
use Rattle.report_lines.specs.declared.stop.Stop.TheVariants.{Refused, Memory}

abbrev pub stop_message : Stop → List ℕ
stop_message (Refused refusal) = codes "a step is refused by number " ++ decimal (refusal_of refusal).number
stop_message Memory = codes "no memory for the lines"
