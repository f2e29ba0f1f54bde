-- The reply to an input from the reply at a level.
use Rattle.std.proofs.Common.{◌≡◌, ℕ, List, IfOk, Some, Result}
use Rattle.std.proofs.lemmas.Result.{IfOk-weaker}
use Rattle.level_name.specs.Names.{named, arithmetic_of}
use Rattle.level_name.specs.declared.LevelName.{LevelName}
use Rattle.explain_input.specs.Inputs.{Parts}
use Rattle.report_lines.specs.Replies.{ReplyAt, ReplyTo}

pub answered : {S E : Type 0} (text : S → List ℕ) (parts : Parts) (level : LevelName) → named parts.letter ≡ Some level → (r : Result S E)
    → IfOk r (λ s. ReplyAt (arithmetic_of level) parts (text s)) → IfOk r (λ s. ReplyTo parts (text s))
answered text parts level e r h = IfOk-weaker r _ _ (λ s p. record { level = level; level_is = e; reply_is = p }) h
