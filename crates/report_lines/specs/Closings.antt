-- The closing values at points.
use Rattle.std.specs.Prelude.{◌≡◌, ℕ, List, map, length, vec_items, IfOk, Vec, Result}
use Rattle.std.specs.Fn.{Mut, AlwaysReturns}
use Rattle.std.specs.declared.alloc.Global.{Global}
use Rattle.level.specs.declared.level.Level.{Ghosts}
use Rattle.level.specs.Element.{Element}
use Rattle.level.specs.Laws.{Arithmetic}
use Rattle.ring_switch.specs.Opening.{kept_rows, rest}
use Rattle.ring_switch.specs.Batching.{closing_value}
use Rattle.refusals.specs.Refusals.{ring_switch_refusal, refused}
use Rattle.refusals.specs.Steps.{closing}
use Rattle.refusals.specs.declared.faults.BitRingSwitchError.{BitRingSwitchError}
use Rattle.report_lines.specs.Batched.{Batching}
use Rattle.report_lines.specs.Report.{closing_text}

-- the result at a point z is the refusal of the point, or the closing value there
abbrev pub Closes : {X : Type 0} {k : ℕ} → (X → Element k) → Arithmetic k → Batching k → List X → Result X BitRingSwitchError → Type 0
Closes means A b z r =
    (refused ring_switch_refusal r ≡ closing (length (rest A b.opening)) (length z))
    × IfOk r (λ x. means x ≡ closing_value A b.rows (rest A b.opening) (kept_rows b.opening) b.challenge (map means z))

module _ {X : Type 0} (L : Ghosts X) (b : Batching L.log) where
  -- so is the result of a closure at every call, of which `point` reads z
  abbrev pub ClosesAll : {Y F : Type 0} → (Y → List X) → Mut F Y (Result X BitRingSwitchError) → F → Type 0
  ClosesAll point g close = AlwaysReturns g (λ a r. Closes L.means L.arithmetic b (point a) r) close

  -- the lines of closing points that are vectors of elements
  abbrev pub closed_text : List (Vec X Global) → List ℕ
  closed_text vs = closing_text L.arithmetic b (map (λ v. map L.means (vec_items v)) vs)
