-- A text that asks for something has one reply.
use Rattle.std.proofs.Common.{◌≡◌, ℕ, List, Some, inl, inr, ap, ◌∙◌, subst}
use Rattle.level.specs.Laws.{Arithmetic}
use Rattle.level_name.specs.Names.{named, log_of, arithmetic_of}
use Rattle.level_name.specs.declared.LevelName.{LevelName}
use Rattle.explain_input.specs.Inputs.{Parts}
use Rattle.explain_input.proofs.Refusing.{refused_say_nothing}
use Rattle.explain_input.proofs.Saying.{parts_determined}
use Rattle.problem.specs.Reading.{Asks}
use Rattle.problem.specs.Task.{Task}
use Rattle.problem.proofs.Asking.{task_determined, refused_ask_nothing}
use Rattle.report_lines.specs.Report.{report_text}
use Rattle.report_lines.specs.Replies.{ReplyAt, ReplyTo, OnlyTheReport}

at_level : {k : ℕ} (A : Arithmetic k) (parts : Parts) (t : Task k) (reply : List ℕ) → Asks parts t → ReplyAt A parts reply → reply ≡ report_text A t
at_level {k} A parts t reply asks (inl (u, v, is)) = is ∙ ap (report_text A) (task_determined k parts u t v asks)
at_level {k} A parts t reply asks (inr (f, m, bad, is)) = absurd (refused_ask_nothing k parts f t m bad asks)

to_parts : (parts : Parts) (level : LevelName) (t : Task (log_of level)) (reply : List ℕ) → named parts.letter ≡ Some level → Asks parts t → ReplyTo parts reply
    → reply ≡ report_text (arithmetic_of level) t
to_parts parts level t reply e asks r =
    let same : r.level ≡ level = cc (r.level_is, e) in
    at_level (arithmetic_of level) parts t reply asks (subst (λ l. ReplyAt (arithmetic_of l) parts reply) same r.reply_is)

pub only_the_report : OnlyTheReport
only_the_report text reply parts level t says e asks (inl (p, s, r)) =
    to_parts parts level t reply e asks (subst (λ q. ReplyTo q reply) (parts_determined text p parts s says) r)
only_the_report text reply parts level t says e asks (inr (f, m, bad, is)) = absurd (refused_say_nothing text f parts m bad says)
