-- The report of a problem: the lines of its values, step by step, until one is refused.
use Rattle.std.specs.Prelude.{◌≡◌, ℕ, zero, suc, ◌/◌, ◌^◌, List, [], ◌∷◌, ◌++◌, length, Some, None, codes, decimal, Option, Result, MatchResult}
use Rattle.std.specs.Int.Count.{count_trailing_zeros}
use Rattle.level.specs.Laws.{Arithmetic}
use Rattle.element_text.specs.Hex.{shown_bytes, element_text}
use Rattle.multilinear.specs.Cells.{cell, packed}
use Rattle.multilinear.specs.Equality.{Point}
use Rattle.ring_switch.specs.Opening.{kept_rows, rest}
use Rattle.ring_switch.specs.Slots.{slot_table, slot_count}
use Rattle.ring_switch.specs.Batching.{weight, closing_value}
use Rattle.refusals.specs.Refusals.{Refusal, refusal_of}
use Rattle.refusals.specs.Steps as step
use Rattle.problem.specs.Task.{Task, asked}
use Rattle.report_lines.specs.Lines.{line, optional_text}
use Rattle.report_lines.specs.Opened.{Values, open_refusal, values_at}
use Rattle.report_lines.specs.Batched.{Batching, batch_refusal, batching_at, initial}
use Rattle.report_lines.specs.declared.stop.Stop.{Stop}
use Rattle.report_lines.specs.declared.stop.Stop.TheVariants.{Refused, Memory}

abbrev pub refusal_line : ℕ → List ℕ
refusal_line number = line (codes "refused") (decimal number)

-- the lines of a step and those after it; a step that is refused has one line, and none comes after it
abbrev pub unless : Option Refusal → List ℕ → List ℕ
unless None text = text
unless (Some r) text = refusal_line r.number

-- the lines of 0, 1, .. n - 1
unfoldable pub lines_below : ℕ → (ℕ → List ℕ) → List ℕ
lines_below zero f = []
lines_below (suc n) f = lines_below n f ++ f n

-- how many variables a packing of n bytes is over
abbrev pub variables_of : ℕ → ℕ → ℕ
variables_of k n = count_trailing_zeros 64 (n / shown_bytes k)

abbrev pub packed_line : (k : ℕ) → (ℕ → ℕ) → ℕ → List ℕ
packed_line k bits w = line (codes "packed") (element_text (packed k bits w))

unfoldable pub opening_text : {k : ℕ} → Values k → List ℕ
opening_text v =
    line (codes "incoming") (element_text v.incoming) ++ (line (codes "successor") (optional_text v.successor)
    ++ (line (codes "prefix") (decimal v.prefix.count) ++ line (codes "address") (decimal v.prefix.address)))

abbrev pub weight_line : {k : ℕ} → Arithmetic k → Batching k → ℕ → List ℕ
weight_line A b i = line (codes "weight") (element_text (weight A b.rows (slot_table A b.opening) (kept_rows b.opening) b.challenge i))

unfoldable pub batching_text : {k : ℕ} → Arithmetic k → Batching k → (ℕ → ℕ) → List ℕ
batching_text A b bits = line (codes "initial") (element_text (initial A b bits)) ++ lines_below (slot_count A b.opening) (weight_line A b)

abbrev pub closing_line : {k : ℕ} → Arithmetic k → Batching k → Point k → List ℕ
closing_line A b z = line (codes "closing") (element_text (closing_value A b.rows (rest A b.opening) (kept_rows b.opening) b.challenge z))

unfoldable pub closing_text : {k : ℕ} → Arithmetic k → Batching k → List (Point k) → List ℕ
closing_text A b [] = []
closing_text A b (z ∷ zs) = unless (step.closing (length (rest A b.opening)) (length z)) (closing_line A b z ++ closing_text A b zs)

-- with a batching point, the batching and the closing points
unfoldable pub batched_text : {k : ℕ} → Arithmetic k → Task k → Option (Point k) → List ℕ
batched_text A t None = []
batched_text {k} A t (Some b) =
    let batched = batching_at A (asked t) b t.challenge in
    unless (batch_refusal k t.view t.challenge (length b)) (batching_text A batched (cell t.bits) ++ closing_text A batched t.closings)

unfoldable pub opened_text : {k : ℕ} → Arithmetic k → Task k → List ℕ
opened_text {k} A t =
    unless (open_refusal k (variables_of k (length t.bits)) (length t.point) t.view)
    (opening_text (values_at A (asked t) (cell t.bits)) ++ batched_text A t t.batching)

unfoldable pub report_text : {k : ℕ} → Arithmetic k → Task k → List ℕ
report_text {k} A t =
    unless (step.packing (step.told k) (length t.bits))
    (lines_below (2 ^ variables_of k (length t.bits)) (packed_line k (cell t.bits)) ++ opened_text A t)

-- what is written so far is the whole text but for the line of the refusal that stops it
abbrev pub Stopped : Stop → List ℕ → List ℕ → Type 0
Stopped (Refused refusal) written text = written ++ refusal_line (refusal_of refusal).number ≡ text
Stopped Memory written text = Unit {0}

-- the whole text is written, or all of it before the line of a refusal
abbrev pub Reported : {X : Type 0} → Result X Stop → List ℕ → List ℕ → Type 0
Reported r written text = MatchResult r (λ _. written ≡ text) (λ s. Stopped s written text)
