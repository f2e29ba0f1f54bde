-- The words for each fault of an input.
use Rattle.std.specs.Prelude.{ℕ, List, ◌++◌, codes, decimal}
use Rattle.explain_input.specs.Keys.{word_of}
use Rattle.explain_input.specs.declared.fault.InputFault.{InputFault}
use Rattle.explain_input.specs.declared.fault.InputFault.TheVariants as fault

abbrev pub line_message : ℕ → List ℕ
line_message number = codes "line " ++ (decimal number ++ codes " has no key")

abbrev pub input_message : InputFault → List ℕ
input_message (fault.Line number) = line_message number
input_message (fault.Twice key) = codes "there are several lines of " ++ word_of key
input_message (fault.Missing key) = codes "there is no line of " ++ word_of key
input_message fault.Letter = codes "the level is none of b, w, d, q and a"
input_message fault.Number = codes "the view is no decimal number below 2^64"
input_message fault.NoBatching = codes "there is a challenge without batching"
input_message fault.Memory = codes "no memory for the input"
