-- A step that is not refused has passed its tests.
use Rattle.std.proofs.Common.{◌≡◌, ℕ, Bool, true, false, cond, Some, None, Option, refl, arith}
use Rattle.refusals.specs.Refusals.{Refusal}
use Rattle.refusals.specs.Steps.{first}

pub passed : {X : Type 0} (test : Bool) (x : X) (next : Option X) → None ≡ cond test (Some x) next → (test ≡ false) × (None ≡ next)
passed true x next e = let z : ◌≡◌ {A = ℕ} 0 1 = cc in absurd (omega arith)
passed false x next e = (refl, e)

pub met : {X : Type 0} (test : Bool) (x : X) → None ≡ cond test None (Some x) → test ≡ true
met true x e = refl
met false x e = let z : ◌≡◌ {A = ℕ} 0 1 = cc in absurd (omega arith)

pub both_passed : (a b : Option Refusal) → None ≡ first a b → (None ≡ a) × (None ≡ b)
both_passed None b e = (refl, e)
both_passed (Some r) b e = let z : ◌≡◌ {A = ℕ} 0 1 = cc in absurd (omega arith)
