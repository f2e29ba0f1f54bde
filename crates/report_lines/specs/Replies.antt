-- The reply to an input: the report of what it asks, or one line that says what is wrong with it. A want of memory is no reply.
use Rattle.std.specs.Prelude.{◌≡◌, ℕ, false, ◌≢◌, ◌⊎◌, List, ◌++◌, Some, codes}
use Rattle.level.specs.Laws.{Arithmetic}
use Rattle.level_name.specs.Names.{named, log_of, arithmetic_of}
use Rattle.level_name.specs.declared.LevelName.{LevelName}
use Rattle.explain_input.specs.Inputs.{Parts, Says, BadInput}
use Rattle.explain_input.specs.Messages.{input_message}
use Rattle.explain_input.specs.declared.fault.InputFault.{InputFault}
use Rattle.explain_input.specs.declared.fault.InputFault.TheVariants as fault
use Rattle.problem.specs.Reading.{Asks, BadProblem, wants_memory}
use Rattle.problem.specs.declared.reading.ProblemFault.{ProblemFault}
use Rattle.problem.specs.Messages.{problem_message, error_line}
use Rattle.problem.specs.Task.{Task}
use Rattle.report_lines.specs.Report.{report_text}

-- the reply to the parts of an input at a level
abbrev pub ReplyAt : {k : ℕ} → Arithmetic k → Parts → List ℕ → Type 0
ReplyAt {k} A parts reply =
    ((t : Task k) × Asks parts t × (reply ≡ report_text A t)) ⊎ ((f : ProblemFault) × (wants_memory f ≡ false) × BadProblem k parts f × (reply ≡ error_line (problem_message f)))

-- the same at the level that their letter names
pub record ReplyTo (parts : Parts) (reply : List ℕ) : Type 0 where
  pub level : LevelName
  pub level_is : named parts.letter ≡ Some level
  pub reply_is : ReplyAt (arithmetic_of level) parts reply

-- the reply to an input
abbrev pub Reply : List ℕ → List ℕ → Type 0
Reply text reply =
    ((parts : Parts) × Says text parts × ReplyTo parts reply) ⊎ ((f : InputFault) × (f ≢ fault.Memory) × BadInput text f × (reply ≡ error_line (input_message f)))

-- a text that says something, and asks for something at the level that it names, has its report for its only reply
abbrev pub OnlyTheReport : Type 0
OnlyTheReport =
    (text reply : List ℕ) (parts : Parts) (level : LevelName) (t : Task (log_of level)) → Says text parts → named parts.letter ≡ Some level
    → Asks parts t → Reply text reply → reply ≡ report_text (arithmetic_of level) t

-- no reply begins with these words
abbrev pub NoneTellsOfMemory : Type 0
NoneTellsOfMemory = (text rest : List ℕ) → Reply text (codes "error: no memory" ++ rest) → ⊥
