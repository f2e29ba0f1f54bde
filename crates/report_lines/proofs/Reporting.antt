-- The text of a report, step by step.
use Rattle.std.proofs.Common.{◌≡◌, ℕ, ◌^◌, Bool, List, ◌++◌, length, is_some, Some, None, Option, sym, ap, ◌∙◌, ap₂}
use Rattle.std.proofs.lemmas.List.{append_assoc}
use Rattle.level.specs.Element.{Element}
use Rattle.level.specs.Laws.{Arithmetic}
use Rattle.multilinear.specs.Cells.{cell}
use Rattle.multilinear.specs.Equality.{Point, equality}
use Rattle.ring_switch.specs.Opening.{Opening, kept}
use Rattle.refusals.specs.Refusals.{Refusal}
use Rattle.refusals.specs.Steps.{told, packing, batching}
use Rattle.problem.specs.Task.{Task, asked}
use Rattle.report_lines.specs.Opened.{Values, open_refusal, values_at}
use Rattle.report_lines.specs.Batched.{Agree, Batching, batch_refusal, batching_at}
use Rattle.report_lines.specs.Report.{refusal_line, unless, lines_below, packed_line, variables_of, opening_text, batching_text, closing_text, batched_text, opened_text, report_text}
use Rattle.report_lines.proofs.SameRows.{same_batching, same_closings}

-- a step that is refused, and one that is not, whose lines and those after it come to the same
module _ (o : Option Refusal) (a text : List ℕ) where
  pub refused_step : (r : Refusal) → Some r ≡ o → a ++ refusal_line r.number ≡ a ++ unless o text
  refused_step r e = ap (λ s. a ++ unless s text) e

  pub passed_step : (b x y : List ℕ) → None ≡ o → b ≡ a ++ x → text ≡ x ++ y → b ++ y ≡ a ++ unless o text
  passed_step b x y e f h = ap (λ t. t ++ y) f ∙ append_assoc a x y ∙ ap (λ t. a ++ t) (sym h) ∙ ap (λ s. a ++ unless s text) e

module _ {k : ℕ} (A : Arithmetic k) (t : Task k) (bits : List ℕ) (same_bits : bits ≡ t.bits) (a : List ℕ) where
  module _ (o : Opening k) (same : o ≡ asked t) where
    module _ {X : Type 0} (p : Point k) (n : ℕ) (len : n ≡ length p) (α : Option X) (some : is_some α ≡ is_some t.challenge) where
      same_refusal : batch_refusal k o.view α n ≡ batch_refusal k t.view t.challenge (length p)
      same_refusal =
          ap (λ (q : Opening k). batch_refusal k q.view α n) same
          ∙ ap₂ (λ (s : Bool) (m : ℕ). batching k (is_some (kept k t.view)) s m) some len

      pub batching_refused : (r : Refusal) → Some r ≡ batch_refusal k o.view α n → a ++ refusal_line r.number ≡ a ++ batched_text A t (Some p)
      unfolding batched_text
      batching_refused r e = refused_step _ a _ r (e ∙ same_refusal)

      -- batched with weights that agree with the equality table of the batching point
      pub batching_passed : (b : List ℕ) (f : ℕ → Element k) → Agree f (equality A p) → None ≡ batch_refusal k o.view α n
          → b ≡ a ++ batching_text A (record { opening = o; rows = f; challenge = t.challenge }) (cell bits)
          → b ++ closing_text A (record { opening = o; rows = f; challenge = t.challenge }) t.closings ≡ a ++ batched_text A t (Some p)
      unfolding batched_text
      batching_passed b f agree e w =
          let s : Batching k = record { opening = o; rows = f; challenge = t.challenge } in
          passed_step _ a _ b (batching_text A s (cell bits)) (closing_text A s t.closings) (e ∙ same_refusal) w
          (sym (ap₂ (λ (x y : List ℕ). x ++ y) (same_batching A f (equality A p) agree o t.challenge (cell bits)) (same_closings A f (equality A p) agree o t.challenge t.closings)
          ∙ ap₂ (λ (q : Opening k) (l : List ℕ). let x = batching_at A q p t.challenge in batching_text A x (cell l) ++ closing_text A x t.closings) same same_bits))

    module _ (v n : ℕ) (variables : v ≡ variables_of k (length t.bits)) (len : n ≡ length t.point) where
      same_opening : open_refusal k v n t.view ≡ open_refusal k (variables_of k (length t.bits)) (length t.point) t.view
      same_opening = ap₂ (λ (u m : ℕ). open_refusal k u m t.view) variables len

      pub opening_passed : (b : List ℕ) (x : Values k) → None ≡ open_refusal k v n t.view → x ≡ values_at A o (cell bits)
          → b ≡ a ++ opening_text x → b ++ batched_text A t t.batching ≡ a ++ opened_text A t
      unfolding opened_text
      opening_passed b x e f w =
          passed_step _ a _ b (opening_text x) (batched_text A t t.batching) (e ∙ same_opening) w
          (ap (λ (y : Values k). opening_text y ++ batched_text A t t.batching)
          (sym (f ∙ ap₂ (λ (q : Opening k) (l : List ℕ). values_at A q (cell l)) same same_bits)))

  pub opening_refused : (v n : ℕ) → v ≡ variables_of k (length t.bits) → n ≡ length t.point → (r : Refusal) → Some r ≡ open_refusal k v n t.view
      → a ++ refusal_line r.number ≡ a ++ opened_text A t
  unfolding opened_text
  opening_refused v n variables len r e = refused_step _ a _ r (e ∙ ap₂ (λ (u m : ℕ). open_refusal k u m t.view) variables len)

  same_packing : packing (told k) (length bits) ≡ packing (told k) (length t.bits)
  same_packing = ap (λ (l : List ℕ). packing (told k) (length l)) same_bits

  pub packing_refused : (r : Refusal) → Some r ≡ packing (told k) (length bits) → a ++ refusal_line r.number ≡ a ++ report_text A t
  unfolding report_text
  packing_refused r e = refused_step _ a _ r (e ∙ same_packing)

  pub packing_passed : (b : List ℕ) (v count : ℕ) → None ≡ packing (told k) (length bits) → v ≡ variables_of k (length bits) → count ≡ 2 ^ v
      → b ≡ a ++ lines_below count (packed_line k (cell bits)) → b ++ opened_text A t ≡ a ++ report_text A t
  unfolding report_text
  packing_passed b v count e f c w =
      let number : count ≡ 2 ^ variables_of k (length t.bits) = c ∙ ap (λ i. 2 ^ i) (f ∙ ap (λ (l : List ℕ). variables_of k (length l)) same_bits) in
      passed_step _ a _ b (lines_below count (packed_line k (cell bits))) (opened_text A t) (e ∙ same_packing) w
      (ap₂ (λ (m : ℕ) (l : List ℕ). lines_below m (packed_line k (cell l)) ++ opened_text A t) (sym number) (sym same_bits))
