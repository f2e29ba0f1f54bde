-- What a closure that answers gives, and what is written of it.
use Rattle.std.specs.Prelude.{List, ℕ, Option, Result, String, IfOk, string_bytes}
use Rattle.std.specs.Io.KnownBytes.{Appends}
use Rattle.std.specs.declared.alloc.Global.{Global}
use denote.Ref.{Bor}
use Rattle.report_lines.specs.Replies.{Reply}

-- each text that is given is a reply to the text that is handed in; post are the closure's possible results
abbrev pub GivesReplies : {E : Type 0} → (Global → Bor (List ℕ) → Result (String Global) E → Type 0) → Type 0
GivesReplies post = (at : _) (text : _) (r : _) → post at text r → IfOk r (λ s. Reply text.now (string_bytes s))

-- what a writer holds, where that is known, grows by a text with the property
abbrev pub AppendsOne : (List ℕ → Type 0) → Option (List ℕ) → Option (List ℕ) → Type 0
AppendsOne P old new = (written : List ℕ) × P written × Appends old new written
