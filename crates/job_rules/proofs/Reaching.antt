-- Every ledger that a list reaches is as such ledgers are.
use Rattle.std.proofs.Common.{◌≡◌, ℕ, ◌-◌, ◌*◌, ◌/◌, ◌%◌, ◌^◌, ◌<◌, ◌≤◌, Bool, true, false, not, cond, ◌&&◌, ltb, is_some, List, [], ◌∷◌, length, Some, None, Option, sym, refl, ap, arith, mod-lt, get_or, pow_pos}
use Rattle.std.proofs.lemmas.List.{get_or_past}
use Rattle.std.proofs.lemmas.Bool.{leb-true, ltb-false, eqb-true}
use Rattle.level.specs.Element.{Element}
use Rattle.level.specs.Laws.{Arithmetic}
use Rattle.multilinear.specs.Cells.{cell}
use Rattle.multilinear.specs.Equality.{Point}
use Rattle.ring_switch.specs.Opening.{Opening, View, named, variables, kept}
use Rattle.refusals.specs.Refusals.{Refusal}
use Rattle.refusals.specs.Steps as step
use Rattle.job_rules.specs.Capacity.{capacity, told_capacity}
use Rattle.job_rules.specs.Ledger.{Ledger, empty, cells_log, moved}
use Rattle.job_rules.specs.JobRefusals.{out_of_stage, over_capacity, point_over_capacity, tests, refusal}
use Rattle.job_rules.specs.Requests.{Request}
use Rattle.job_rules.specs.Requests.Request.{Pack, Open, Work, Batch, IncomingClaim, SuccessorClaim, InitialSum, WeightCount, Weight, ClosingValue}
use Rattle.job_rules.specs.Runs.{after, after_all}
use Rattle.job_rules.specs.Reaching.{Reached}
use Rattle.job_rules.specs.Stages.{rank, asks_for}
use Rattle.job_rules.specs.declared.stage.Stage.{Stage}
use Rattle.job_rules.specs.declared.stage.Stage.TheVariants.{Bare, Packed, Opened, Worked, Batched}
use Rattle.job_rules.proofs.Counted.{packable}

chosen : {X : Type 0} (P : X → Type 0) (o : Option Refusal) (old new : X) → P old → (None ≡ o → P new) → P (cond (is_some o) old new)
chosen P None old new p q = q refl
chosen P (Some r) old new p q = p

both : (a b : Option Refusal) → None ≡ step.first a b → (None ≡ a) × (None ≡ b)
both None b e = (refl, e)
both (Some r) b e = let z : ◌≡◌ {A = ℕ} 0 1 = cc in absurd (omega arith)

met : {R : Type 0} (b : Bool) (r : R) → None ≡ cond b None (Some r) → b ≡ true
met true r e = refl
met false r e = let z : ◌≡◌ {A = ℕ} 0 1 = cc in absurd (omega arith)

passed : {R : Type 0} (b : Bool) (r : R) (o : Option R) → None ≡ cond b (Some r) o → (b ≡ false) × (None ≡ o)
passed true r o e = let z : ◌≡◌ {A = ℕ} 0 1 = cc in absurd (omega arith)
passed false r o e = (refl, e)

alike : (a b : Bool) → (a && not b) ≡ false → (b && not a) ≡ false → b ≡ a
alike true true e f = refl
alike true false e f = sym e
alike false true e f = f
alike false false e f = refl

cell_bit : (bytes : List ℕ) (c : ℕ) → cell bytes c < 2
unfolding cell
cell_bit bytes c = mod-lt _ (omega arith)

-- past the bytes there are no cells
no_cell : (bytes : List ℕ) (n c : ℕ) → 8 * length bytes ≡ n → n ≤ c → cell bytes c ≡ 0
unfolding cell
no_cell bytes n c e h =
    let none : get_or bytes (c / 8) 0 ≡ 0 = get_or_past bytes (c / 8) 0 (omega arith) in
    rw none (zero_over (2 ^ (c % 8)) (pow_pos (c % 8)))
  where
    zero_over : (d : ℕ) → 0 < d → 0 / d % 2 ≡ 0
    zero_over d p = grind arith

wide : (k n : ℕ) → None ≡ step.wide_enough k n → k ≤ n
wide k n e = ltb-false n k (passed _ _ None e).0

fits : (k n : ℕ) (view : View) → None ≡ step.opening k n view → (k ≤ n) × (named view ≤ n)
fits k n None e = (wide k n e, omega arith)
fits k n (Some r) e =
    let p = passed (ltb n r) _ (step.wide_enough k n) e in
    (wide k n p.1, ltb-false n r p.0)

no_bare : {P : Type 0} (s : Stage) → 1 ≤ rank s → s ≡ Bare → P
no_bare s h b = absurd (omega (arith, ap rank b))

no_batched : {P : Type 0} (s : Stage) → rank s ≤ 3 → s ≡ Batched → P
no_batched s h b = absurd (omega (arith, ap rank b))

module _ {k : ℕ} (A : Arithmetic k) (size : ℕ) where
  abbrev c : ℕ
  c = told_capacity (capacity k size)

  reached_empty : Reached size (empty {k = k})
  reached_empty = record {
    new = λ b. refl;
    binary = cell_bit [];
    cells = λ h. absurd (omega arith);
    packed = λ h. absurd (omega arith);
    opened = λ h. absurd (omega arith);
    rows = omega arith;
    worked = λ h. absurd (omega arith);
    batched = no_batched Bare (omega arith);
    closed = λ h. refl;
    struck = λ h. (refl, refl);
  }

  reached_pack : (l : Ledger k) (bytes : List ℕ) → None ≡ refusal A size l (Pack bytes) → Reached size (moved l (Pack bytes))
  reached_pack l bytes e =
      let t = both (step.packing (step.told k) (length bytes)) (over_capacity (capacity k size) (cells_log (length bytes))) (both (out_of_stage {k = k} l.stage (Pack bytes)) _ e).1 in
      let p = packable k (length bytes) t.0 in
      record {
        new = no_bare Packed (omega arith);
        binary = cell_bit bytes;
        cells = λ h i past. no_cell bytes (2 ^ cells_log (length bytes)) i p.cells past;
        packed = λ h. (p.wide, p.narrow, p.filled, ltb-false c (cells_log (length bytes)) (passed _ _ None t.1).0);
        opened = λ h. absurd (omega arith);
        rows = omega arith;
        worked = λ h. absurd (omega arith);
        batched = no_batched Packed (omega arith);
        closed = λ h. refl;
        struck = λ h. (refl, refl);
      }

  allowed : (l : Ledger k) (request : Request k) → None ≡ refusal A size l request → rank (asks_for request) ≤ rank l.stage
  allowed l request e = leb-true (rank (asks_for request)) (rank l.stage) (met _ _ (both (out_of_stage l.stage request) (tests A size l request) e).0)

  reached_open : (l : Ledger k) (o : Opening k) → Reached size l → None ≡ refusal A size l (Open o) → Reached size (moved l (Open o))
  reached_open l o r e =
      let a : 1 ≤ rank l.stage = allowed l (Open o) e in
      let t = both (step.opening k (length o.point) o.view) (point_over_capacity (capacity k size) (length o.point)) (both (out_of_stage l.stage (Open o)) _ e).1 in
      let f = fits k (length o.point) o.view t.0 in
      record {
        new = no_bare Opened (omega arith);
        binary = r.binary;
        cells = λ h. r.cells a;
        packed = λ h. r.packed a;
        opened = λ h. (f.0, ltb-false c (length o.point) (passed _ _ None t.1).0);
        rows = f.1;
        worked = λ h. absurd (omega arith);
        batched = no_batched Opened (omega arith);
        closed = λ h. absurd (omega arith);
        struck = λ h. (refl, refl);
      }

  reached_work : (l : Ledger k) → Reached size l → None ≡ refusal A size l Work → Reached size (moved l Work)
  reached_work l r e =
      let a : 2 ≤ rank l.stage = allowed l Work e in
      let w = eqb-true (l.variables - k) (variables l.opening) (met _ _ (both (out_of_stage {k = k} l.stage Work) (step.width (variables l.opening) (l.variables - k)) e).1) in
      let p = r.packed (omega arith) in
      let o = r.opened a in
      record {
        new = no_bare Worked (omega arith);
        binary = r.binary;
        cells = λ h. r.cells (omega arith);
        packed = λ h. p;
        opened = λ h. o;
        rows = r.rows;
        worked = λ h. omega (arith, w, p.2, o.0);
        batched = no_batched Worked (omega arith);
        closed = λ h. absurd (omega arith);
        struck = λ h. (refl, refl);
      }

  reached_batch : (l : Ledger k) (point : Point k) (challenge : Option (Element k)) → Reached size l → None ≡ refusal A size l (Batch point challenge) → Reached size (moved l (Batch point challenge))
  reached_batch l point challenge r e =
      let a : 3 ≤ rank l.stage = allowed l (Batch point challenge) e in
      let sent = is_some (kept k l.opening.view) in
      let t = (both (out_of_stage l.stage (Batch point challenge)) (step.batching k sent (is_some challenge) (length point)) e).1 in
      let u = passed (sent && not (is_some challenge)) _ _ t in
      let v = passed (is_some challenge && not sent) _ _ u.1 in
      let n : length point ≡ k = eqb-true (length point) k (met _ _ v.1) in
      record {
        new = no_bare Batched (omega arith);
        binary = r.binary;
        cells = λ h. r.cells (omega arith);
        packed = λ h. r.packed (omega arith);
        opened = λ h. r.opened (omega arith);
        rows = r.rows;
        worked = λ h. r.worked a;
        batched = λ b. (n, alike sent (is_some challenge) u.0 v.0);
        closed = λ h. absurd (omega arith);
        struck = λ h. absurd (omega arith);
      }

  reached_after : (l : Ledger k) (request : Request k) → Reached size l → Reached size (after A size l request)
  reached_after l (Pack bytes) r = chosen (Reached size) (refusal A size l (Pack bytes)) l _ r (reached_pack l bytes)
  reached_after l (Open o) r = chosen (Reached size) (refusal A size l (Open o)) l _ r (reached_open l o r)
  reached_after l Work r = chosen (Reached size) (refusal A size l Work) l _ r (reached_work l r)
  reached_after l (Batch point challenge) r = chosen (Reached size) (refusal A size l (Batch point challenge)) l _ r (reached_batch l point challenge r)
  reached_after l IncomingClaim r = chosen (Reached size) (refusal A size l IncomingClaim) l l r (λ e. r)
  reached_after l SuccessorClaim r = chosen (Reached size) (refusal A size l SuccessorClaim) l l r (λ e. r)
  reached_after l InitialSum r = chosen (Reached size) (refusal A size l InitialSum) l l r (λ e. r)
  reached_after l WeightCount r = chosen (Reached size) (refusal A size l WeightCount) l l r (λ e. r)
  reached_after l (Weight index) r = chosen (Reached size) (refusal A size l (Weight index)) l l r (λ e. r)
  reached_after l (ClosingValue point) r = chosen (Reached size) (refusal A size l (ClosingValue point)) l l r (λ e. r)

  reached_from : (l : Ledger k) (requests : List (Request k)) → Reached size l → Reached size (after_all A size l requests)
  unfolding after_all
  reached_from l [] r = r
  reached_from l (request ∷ requests) r = reached_from (after A size l request) requests (reached_after l request r)

pub all_reached : (k : ℕ) (A : Arithmetic k) (size : ℕ) (requests : List (Request k)) → Reached size (after_all A size empty requests)
all_reached k A size requests = reached_from A size empty requests (reached_empty A size)
