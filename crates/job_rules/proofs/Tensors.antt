-- The answers of a ledger that a list reaches are those that the reduction forms.
use Rattle.std.proofs.Common.{◌≡◌, ℕ, List, sym, ap, ◌∙◌}
use mathlib.Core.Path.{fun_ext}
use Rattle.level.specs.Element.{Element}
use Rattle.level.specs.Laws.{Arithmetic, Laws}
use Rattle.multilinear.specs.Cells.{packed}
use Rattle.multilinear.specs.Equality.{equality}
use Rattle.ring_switch.specs.Opening.{Opening, rest, kept_rows}
use Rattle.ring_switch.specs.Claims.{tensor, carry}
use Rattle.ring_switch.specs.ClaimLaws.{opened, opened_carry, opened_last}
use Rattle.ring_switch.specs.Slots.{slot_table, slot_count, in_slot}
use Rattle.ring_switch.specs.Batching.{initial_sum}
use Rattle.ring_switch.proofs.Incoming.{incoming_is_multilinear}
use Rattle.ring_switch.proofs.Successor.{successor_is_multilinear}
use Rattle.ring_switch.proofs.SlotTensors.{slot, stepped_slot}
use Rattle.ring_switch.proofs.Initial.{initial_weighted}
use Rattle.ring_switch.proofs.ClosingElements.{closing_multilinear}
use Rattle.job_rules.specs.Ledger.{Ledger, empty}
use Rattle.job_rules.specs.Reaching.{Reached}
use Rattle.job_rules.specs.Replies.{weight_of, weighed}
use Rattle.job_rules.specs.Requests.{Request}
use Rattle.job_rules.specs.Runs.{after_all}
use Rattle.job_rules.specs.Tensors.{ByTensors}
use Rattle.job_rules.proofs.Reaching.{all_reached}

module _ {k : ℕ} {A : Arithmetic k} (laws : Laws A) (size : ℕ) (l : Ledger k) (r : Reached size l) where
  abbrev o : Opening k
  o = l.opening

  abbrev f : ℕ → Element k
  f = equality A l.batching

  -- the sum over the slot has the whole of the three tensors
  initial_is : initial_sum A f l.challenge (opened A o l.bits) (opened_carry A o l.bits) (opened_last A o l.bits) ≡ weighed A l (weight_of A l)
  initial_is =
      let n = slot_count A o in
      let e = slot_table A o in
      let t = in_slot A o (packed k l.bits) in
      let s = stepped_slot laws o r.rows in
      ap (λ x. initial_sum A f l.challenge x (opened_carry A o l.bits) (opened_last A o l.bits)) (fun_ext ((slot laws o).whole_tensor (packed k l.bits)))
      ∙ ap (λ x. initial_sum A f l.challenge (tensor n e t) x (opened_last A o l.bits)) (fun_ext (s.whole_carry (packed k l.bits)))
      ∙ ap (λ x. initial_sum A f l.challenge (tensor n e t) (carry (kept_rows o) n e t) x) (fun_ext (s.whole_last (packed k l.bits)))
      ∙ initial_weighted laws f e (kept_rows o) l.challenge n t

  pub by_tensors : ByTensors A l
  by_tensors = record {
    incoming_is = λ h. sym (incoming_is_multilinear laws l.bits r.binary o (r.opened h).0);
    successor_is = λ h. sym (successor_is_multilinear laws l.bits r.binary o (r.opened h).0 r.rows);
    initial_is = sym initial_is;
    closing_is = λ z e. sym (closing_multilinear laws f (rest A o) (kept_rows o) (stepped_slot laws o r.rows).row_coordinates l.challenge z e);
  }

pub always_by_tensors : (k : ℕ) (A : Arithmetic k) → Laws A → (size : ℕ) (requests : List (Request k)) → ByTensors A (after_all A size empty requests)
always_by_tensors k A laws size requests = by_tensors laws size (after_all A size empty requests) (all_reached k A size requests)
