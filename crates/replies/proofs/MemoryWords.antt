-- No reply begins with `error: no memory`, by its first character or that after `error: `.
use Rattle.std.proofs.Common.{◌≡◌, ℕ, zero, suc, ◌^◌, ◌<◌, ◌≢◌, List, [], ◌∷◌, ◌++◌, length, get_or, Some, None, Option, codes, inl, inr, refl, sym, ap, ◌∙◌, arith, pow_pos}
use Rattle.level.specs.Laws.{Arithmetic}
use Rattle.multilinear.specs.Cells.{cell}
use Rattle.refusals.specs.Refusals.{Refusal}
use Rattle.refusals.specs.Steps.{told, packing}
use Rattle.explain_input.specs.declared.fault.InputFault.TheVariants as fault
use Rattle.explain_input.specs.declared.fault.InputFault.{InputFault}
use Rattle.explain_input.specs.Messages.{input_message}
use Rattle.explain_input.specs.Inputs.{Parts}
use Rattle.problem.proofs.Words.{no_n}
use Rattle.problem.specs.Messages.{problem_message, error_line}
use Rattle.problem.specs.Task.{Task}
use Rattle.report_lines.specs.Report.{unless, lines_below, packed_line, variables_of, opened_text, report_text}
use Rattle.report_lines.specs.Replies.{ReplyAt, NoneTellsOfMemory}

-- a text that begins with a character
abbrev Begins : ℕ → List ℕ → Type 0
Begins c l = (rest : List ℕ) × (l ≡ c ∷ rest)

lines_begin : (c : ℕ) (f : ℕ → List ℕ) → Begins c (f 0) → (n : ℕ) → 0 < n → Begins c (lines_below n f)
unfolding lines_below
lines_begin c f b zero h = absurd (omega arith)
lines_begin c f b (suc zero) h = b
lines_begin c f b (suc (suc n)) h = let more = lines_begin c f b (suc n) (omega arith) in (more.0 ++ f (suc n), ap (λ l. l ++ f (suc n)) more.1)

no_e : (o : Option Refusal) (text rest more : List ℕ) → Begins 112 text → 101 ∷ rest ≡ unless o (text ++ more) → ⊥
no_e None text rest more b e = let z : ◌≡◌ {A = ℕ} 101 112 = ap (λ l. get_or l 0 0) (e ∙ ap (λ l. l ++ more) b.1) in omega arith
no_e (Some r) text rest more b e = let z : ◌≡◌ {A = ℕ} 101 114 = ap (λ l. get_or l 0 0) e in omega arith

no_report : {k : ℕ} (A : Arithmetic k) (t : Task k) (rest : List ℕ) → codes "error: no memory" ++ rest ≡ report_text A t → ⊥
unfolding report_text
no_report {k} A t rest e =
    no_e (packing (told k) (length t.bits)) (lines_below (2 ^ variables_of k (length t.bits)) (packed_line k (cell t.bits))) _ (opened_text A t)
    (lines_begin 112 (packed_line k (cell t.bits)) (_, refl) (2 ^ variables_of k (length t.bits)) (pow_pos (variables_of k (length t.bits)))) e

-- after `error: `
words : (message rest : List ℕ) → get_or message 0 0 ≢ 110 → codes "error: no memory" ++ rest ≡ error_line message → ⊥
words [] rest h e = let z : ◌≡◌ {A = ℕ} 110 10 = ap (λ l. get_or l 7 0) e in omega arith
words (c ∷ message) rest h e = h (sym (ap (λ l. get_or l 7 0) e))

input_no_n : (f : InputFault) → f ≢ fault.Memory → get_or (input_message f) 0 0 ≢ 110
input_no_n (fault.Line number) m e = omega (arith, e)
input_no_n (fault.Twice key) m e = omega (arith, e)
input_no_n (fault.Missing key) m e = omega (arith, e)
input_no_n fault.Letter m e = omega (arith, e)
input_no_n fault.Number m e = omega (arith, e)
input_no_n fault.NoBatching m e = omega (arith, e)
input_no_n fault.Memory m e = m refl

at_level : {k : ℕ} (A : Arithmetic k) (parts : Parts) (rest : List ℕ) → ReplyAt A parts (codes "error: no memory" ++ rest) → ⊥
at_level A parts rest (inl (t, asks, is)) = no_report A t rest is
at_level A parts rest (inr (f, m, bad, is)) = words (problem_message f) rest (no_n f m) is

pub none_tells_of_memory : NoneTellsOfMemory
none_tells_of_memory text rest (inl (parts, says, r)) = at_level _ parts rest r.reply_is
none_tells_of_memory text rest (inr (f, m, bad, is)) = words (input_message f) rest (input_no_n f m) is
