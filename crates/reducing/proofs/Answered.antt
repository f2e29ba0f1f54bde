-- What a stretch answers of a problem.
use Rattle.std.proofs.Common.{◌≡◌, ℕ, ◌-◌, ◌^◌, ◌<◌, ◌≤◌, Bool, true, false, not, ◌&&◌, eqb, is_some, List, map, length, Some, None, refl, vec_items, Option, sym, ap, ◌∙◌, ap₂, subst, arith}
use Rattle.std.proofs.lemmas.Bool.{eqb-true}
use lib.ListN.{length-map}
use Rattle.level.specs.Element.{Element}
use Rattle.level.specs.Laws.{Laws}
use Rattle.level.specs.declared.level.Level.{Ghosts}
use Rattle.multilinear.specs.Cells.{cell}
use Rattle.multilinear.specs.Equality.{equality, multilinear}
use Rattle.multilinear.specs.Lent.{lent}
use Rattle.ring_switch.specs.Opening.{Opening, Prefix, View, named, kept, kept_rows, rest}
use Rattle.ring_switch.specs.Batching.{weight, closing_value}
use Rattle.ring_switch.specs.Slots.{slot_count, slot_table}
use Rattle.ring_switch.specs.Claims.{incoming}
use Rattle.ring_switch.specs.ClaimLaws.{Binary, value, value_one_row_on}
use Rattle.ring_switch.proofs.ClosingElements.{closing_multilinear}
use Rattle.ring_switch.proofs.SlotTensors.{stepped_slot}
use Rattle.problem.proofs.Optional.{some_mapped}
use Rattle.problem.specs.Task.{asked}
use Rattle.reduction.specs.AnswerLaws.{Opens}
use Rattle.reduction.specs.Layout.{part, tensor_start, low_start, table_start}
use Rattle.reduction.specs.Stretch.{opening_in, rows_in}
use Rattle.reduction.specs.Worked.{Batched, batching_in, successor_in, initial_in, weight_in, weights_in}
use Rattle.reduction.specs.declared.opened.Opened.{Opened}
use Rattle.refusals.specs.Steps.{batching, closing}
use Rattle.reduction.proofs.Fitting.{elements_fit}
use Rattle.reduction.proofs.ForReports.{initial_opened}
use Rattle.reduction.proofs.Standing.{variables_are}
use Rattle.reduction.proofs.Values.{incoming_value, successor_value}
use Rattle.report_lines.specs.Batched.{Agree, batch_refusal, initial}
use Rattle.report_lines.specs.Opened.{Values}
use Rattle.report_lines.proofs.Passed.{passed, met}
use Rattle.reducing.specs.Held.{HoldsOpening, HoldsTensors, HoldsBatching, task, batching_held}
use Rattle.reducing.proofs.Keeping.{asked_is}
use Rattle.opening.specs.Openings.{opening_of}
use Rattle.reducing.specs.declared.opened_problem.OpenedProblem.{OpenedProblem}

-- values part by part
pub values_are : {k : ℕ} (x y : Element k) (s t : Option (Element k)) (n a : ℕ) (p : Prefix) → x ≡ y → s ≡ t → n ≡ p.count → a ≡ p.address
    → ◌≡◌ {A = Values k} (record { incoming = x; successor = s; prefix = record { count = n; address = a } }) (record { incoming = y; successor = t; prefix = p })
values_are x y s t n a p e f c d = λ i. record { incoming = e i; successor = f i; prefix = record { count = c i; address = d i } }

-- every cell of bytes is 0 or 1
cells_binary : (bytes : List ℕ) → Binary (cell bytes)
unfolding cell
cells_binary bytes c = omega arith

module _ {X : Type 0} (L : Ghosts X) (laws : Laws L.arithmetic) (p : OpenedProblem X L) (xs : List X) where
  abbrev c : ℕ
  c = p.layout.variables

  abbrev bits : ℕ → ℕ
  bits = cell (vec_items p.problem.now.bits)

  -- the view of the numbers is the one that is asked for
  pub view_is : HoldsOpening L p xs → p.opened.view ≡ p.problem.now.view
  view_is o = ap (λ (q : Opening L.log). q.view) o.opening_is

  opens : HoldsTensors L p xs → Opens L c p.opened bits xs
  opens t =
      let s = t.opening.stands in
      record {
        binary = cells_binary (vec_items p.problem.now.bits);
        stands = s;
        worked = t.worked;
        packs = λ w l. t.opening.table.elements w
            (omega (arith, l, elements_fit L.log c p.opened.variables s.within, ap (λ n. 2 ^ n) (variables_are L c p.opened xs s)));
      }

  pub incoming_held : HoldsTensors L p xs
      → incoming L.arithmetic (rows_in L (low_start L.log c) xs) (rows_in L (tensor_start L.log c) xs) ≡ value L.arithmetic (asked (task L p)) bits
  incoming_held t = incoming_value L laws c p.opened bits xs (opens t) ∙ ap (λ q. value L.arithmetic q bits) t.opening.opening_is

  pub successor_held : (q : ℕ) → HoldsTensors L p xs → p.problem.now.view ≡ Some q
      → successor_in L c q xs ≡ value_one_row_on L.arithmetic (asked (task L p)) bits
  successor_held q t e =
      let v : named p.opened.view ≡ q = ap named (view_is t.opening ∙ e) in
      ap (λ r. successor_in L c r xs) (sym v) ∙ successor_value L laws c p.opened bits xs (opens t)
      ∙ ap (λ r. value_one_row_on L.arithmetic r bits) t.opening.opening_is

  pub initial_held : HoldsBatching L p xs → initial_in L c (task L p).challenge xs ≡ initial L.arithmetic (batching_held L p xs) bits
  initial_held b =
      let α = (task L p).challenge in
      let o = b.tensors.opening.opening_is in
      initial_opened L laws c p.opened bits xs (opens b.tensors) α (sym (some_mapped L.means p.problem.now.challenge) ∙ b.challenged)
      ∙ ap (λ q. initial L.arithmetic (record { opening = q; rows = rows_in L (table_start L.log c) xs; challenge = α }) bits) o

  -- the weights of the slot
  pub weights_held : HoldsBatching L p xs → (i : ℕ) → i < slot_count L.arithmetic (asked (task L p))
      → lent L.means (weights_in L c p.opened xs) i
      ≡ (let s = batching_held L p xs in weight L.arithmetic s.rows (slot_table L.arithmetic s.opening) (kept_rows s.opening) s.challenge i)
  weights_held b i h =
      let o = b.tensors.opening.opening_is in
      b.batched.weights_are i (subst (λ q. i < slot_count L.arithmetic q) (sym o) h)
      ∙ ap (λ q. weight L.arithmetic (rows_in L (table_start L.log c) xs) (slot_table L.arithmetic q) (kept_rows q) (task L p).challenge i) o

  -- the closing value at a point with a coordinate for each of the slot's
  pub closing_held : HoldsBatching L p xs → (z : List X) → length z ≡ length (rest L.arithmetic (asked (task L p)))
      → multilinear L.arithmetic (weight_in L c p.opened (task L p).challenge xs) (map L.means z)
      ≡ (let s = batching_held L p xs in closing_value L.arithmetic s.rows (rest L.arithmetic s.opening) (kept_rows s.opening) s.challenge (map L.means z))
  closing_held b z e =
      let o = b.tensors.opening in
      let q = opening_in L c p.opened xs in
      let f = rows_in L (table_start L.log c) xs in
      let α = (task L p).challenge in
      let named_within : named q.view ≤ length q.point = omega (arith, length-map (part (2 ^ (c - L.log)) p.opened.variables xs) L.means, o.stands.fits.len, o.stands.fits.rows) in
      let wide : length (map L.means z) ≡ length (rest L.arithmetic q) = length-map z L.means ∙ e ∙ ap (λ r. length (rest L.arithmetic r)) (sym o.opening_is) in
      sym (closing_multilinear laws f (rest L.arithmetic q) (kept_rows q) (stepped_slot laws q named_within).row_coordinates α (map L.means z) wide)
      ∙ ap (λ r. closing_value L.arithmetic f (rest L.arithmetic r) (kept_rows r) α (map L.means z)) o.opening_is

-- a batching that is not refused has a challenge where tensors are sent, and a coordinate for each that an element absorbs
pub batching_fits : (k : ℕ) (s t : Bool) (n : ℕ) → None ≡ batching k s t n → (t ≡ s) × (n ≡ k)
batching_fits k s t n e =
    let a = passed (s && not t) _ _ e in
    let b = passed (t && not s) _ _ a.1 in
    (both s t a.0 b.0, eqb-true n k (met (eqb n k) _ b.1))
  where
    both : (x y : Bool) → (x && not y) ≡ false → (y && not x) ≡ false → y ≡ x
    both true true f h = refl
    both false false f h = refl
    both true false f h = sym f
    both false true f h = h

-- the batching weights of a batching are the equality table of its point
pub rows_agree : {X : Type 0} (L : Ghosts X) (c : ℕ) (o : Opened) (α : Option (Element L.log)) (xs b : List X) → Batched L c o α xs → batching_in L c xs ≡ map L.means b
    → length b ≡ L.log → Agree (rows_in L (table_start L.log c) xs) (equality L.arithmetic (map L.means b))
rows_agree L c o α xs b w e l =
    λ u h. w.table_is.entries u (subst (λ n. u < 2 ^ n) (sym (ap length e ∙ length-map b L.means ∙ l)) h) ∙ ap (λ q. equality L.arithmetic q u) e

-- the refusal of a batching by what was tested of the code's types
pub batching_tested : {X : Type 0} (L : Ghosts X) (p : OpenedProblem X L) (challenged : Bool) (n : ℕ) → challenged ≡ is_some p.problem.now.challenge
    → batching L.log (is_some (kept L.log p.reduction.view)) challenged n ≡ batch_refusal L.log p.problem.now.view p.problem.now.challenge n
batching_tested L p challenged n e = ap₂ (λ (v : View) (s : Bool). batching L.log (is_some (kept L.log v)) s n) p.view e

-- a closing point that is not refused has a coordinate for each of the slot's
pub closing_fits : (expected actual : ℕ) → None ≡ closing expected actual → actual ≡ expected
closing_fits expected actual e = eqb-true actual expected (met (eqb actual expected) _ e)

pub closing_tested : {X : Type 0} (L : Ghosts X) (p : OpenedProblem X L) (n : ℕ)
    → closing (length (rest L.arithmetic (opening_of L p.reduction))) n ≡ closing (length (rest L.arithmetic (asked (task L p)))) n
closing_tested L p n = ap (λ q. closing (length (rest L.arithmetic q)) n) (asked_is L p)
