-- The words for each fault of an input that is not read at a level.
use Rattle.std.specs.Prelude.{ℕ, List, ◌++◌, codes}
use Rattle.element_lists.specs.Messages.{elements_message, bytes_message}
use Rattle.explain_input.specs.Keys.{word_of}
use Rattle.problem.specs.declared.reading.ProblemFault.{ProblemFault}
use Rattle.problem.specs.declared.reading.ProblemFault.TheVariants.{NoBatching, Bits, TooLarge, Elements, Challenge, Memory}

-- the words for an input that is not read at a level
abbrev pub problem_message : ProblemFault → List ℕ
problem_message NoBatching = codes "closing without batching"
problem_message (Bits f) = bytes_message (codes "bits") f
problem_message TooLarge = codes "bits are more than 2^20 packed elements"
problem_message (Elements key f) = elements_message (word_of key) f
problem_message Challenge = codes "challenge is not one element"
problem_message Memory = codes "no memory for the closing points"

abbrev pub error_line : List ℕ → List ℕ
error_line message = (codes "error: " ++ message) ++ codes "\n"
