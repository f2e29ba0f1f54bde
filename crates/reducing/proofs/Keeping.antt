-- What a stretch holds of a problem lies below a start that a step keeps.
use Rattle.std.proofs.Common.{◌≡◌, ℕ, ◌≤◌, List, length, take, is_some, sym, ap, ◌∙◌, subst, arith}
use Rattle.level.specs.Element.{Element}
use Rattle.level.specs.Laws.{Laws}
use Rattle.level.specs.declared.level.Level.{Ghosts}
use Rattle.opening.specs.Openings.{opening_of}
use Rattle.problem.specs.Task.{asked}
use Rattle.ring_switch.specs.Opening.{kept}
use Rattle.reduction.specs.Layout.{most, point_start, outer_start, batching_start, spare_start, layout_end}
use Rattle.reduction.specs.Stretch.{Stands, opening_in}
use Rattle.reduction.specs.Worked.{Worked, Batched}
use Rattle.reduction.proofs.ForReports.{rows_kept, batched_kept}
use Rattle.reduction.proofs.Standing.{stands_kept, lent_kept}
use Rattle.reduction.proofs.Working as working
use Rattle.report_lines.specs.Batched.{Batching}
use Rattle.reducing.specs.Held.{HoldsTable, HoldsOpening, HoldsTensors, HoldsBatching, task, batching_held}
use Rattle.reducing.specs.declared.opened_problem.OpenedProblem.{OpenedProblem}

-- the opening at a problem's point is the one that the problem asks for
pub asked_is : {X : Type 0} (L : Ghosts X) (p : OpenedProblem X L) → opening_of L p.reduction ≡ asked (task L p)
asked_is L p = λ i. record { point = p.point i; view = p.view i }

module _ {X : Type 0} (L : Ghosts X) (laws : Laws L.arithmetic) (p : OpenedProblem X L) where
  abbrev c : ℕ
  c = p.layout.variables

  module _ (b : ℕ) (xs ys : List X) (len : length ys ≡ length xs) (e : take b ys ≡ take b xs) where
    pub table_kept : most L.log c ≤ b → HoldsTable L p.problem.now c xs → HoldsTable L p.problem.now c ys
    table_kept h t = record {
      room = subst (λ n. layout_end L.log c ≤ n) (sym len) t.room;
      variables = t.variables;
      few = t.few;
      elements = λ w l. lent_kept L c p.opened b ys xs e w (omega (arith, l, h)) ∙ t.elements w l;
    }

    pub opening_kept : outer_start L.log c ≤ b → HoldsOpening L p xs → HoldsOpening L p ys
    opening_kept h o = record {
      table = table_kept (omega (arith, h)) o.table;
      stands = stands_kept L c p.opened b xs ys h (sym e) o.stands;
      opening_is = sym (working.opening_kept L laws c p.opened b xs ys o.stands h (sym e)) ∙ o.opening_is;
    }

    pub tensors_kept : batching_start L.log c ≤ b → HoldsTensors L p xs → HoldsTensors L p ys
    tensors_kept h t =
        let lower : outer_start L.log c ≤ b = omega (arith, h) in
        record {
          opening = opening_kept lower t.opening;
          worked = working.worked_kept L laws c p.opened b xs ys t.opening.stands lower (sym e) h t.worked;
        }

    module _ (h : spare_start L.log c ≤ b) where
      -- the batching weights too
      pub held_kept : batching_held L p ys ≡ batching_held L p xs
      held_kept =
          ap (λ (f : ℕ → Element L.log). let s : Batching L.log = record { opening = asked (task L p); rows = f; challenge = (task L p).challenge } in s)
          (sym (rows_kept L laws c p.opened b xs ys h (sym e)))

      pub batching_kept : HoldsBatching L p xs → HoldsBatching L p ys
      batching_kept t = record {
        tensors = tensors_kept (omega (arith, h)) t.tensors;
        challenged = t.challenged;
        batched = batched_kept L laws c p.opened b xs ys h (sym e) t.tensors.opening.stands (task L p).challenge t.batched;
      }

  -- an opening that was put behind the packed elements
  pub opening_put : (xs ys : List X) → length ys ≡ length xs → take (point_start L.log c) ys ≡ take (point_start L.log c) xs → Stands L c p.opened ys
      → opening_in L c p.opened ys ≡ opening_of L p.reduction → HoldsTable L p.problem.now c xs → HoldsOpening L p ys
  opening_put xs ys len e stands is t = record {
    table = table_kept (point_start L.log c) xs ys len e (omega arith) t;
    stands = stands;
    opening_is = is ∙ asked_is L p;
  }

  -- the tensors that were formed behind the point
  pub tensors_formed : (xs ys : List X) → length ys ≡ length xs → take (outer_start L.log c) ys ≡ take (outer_start L.log c) xs → Worked L c p.opened ys
      → HoldsOpening L p xs → HoldsTensors L p ys
  tensors_formed xs ys len e worked o = record { opening = opening_kept (outer_start L.log c) xs ys len e (omega arith) o; worked = worked }

  -- a batching that was put behind the tensors
  pub batching_put : (xs ys : List X) → length ys ≡ length xs → take (batching_start L.log c) ys ≡ take (batching_start L.log c) xs
      → is_some p.problem.now.challenge ≡ is_some (kept L.log p.opened.view) → Batched L c p.opened (task L p).challenge ys → HoldsTensors L p xs → HoldsBatching L p ys
  batching_put xs ys len e challenged batched t = record {
    tensors = tensors_kept (batching_start L.log c) xs ys len e (omega arith) t;
    challenged = challenged;
    batched = batched;
  }
