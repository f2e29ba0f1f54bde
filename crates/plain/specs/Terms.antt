-- Functions by what their results mean.
use Rattle.std.specs.Prelude.{◌≡◌, ℕ, ◌<◌}
use Rattle.level.specs.Element.{Element}

-- what a call at each number below n may return, as `post` says, means f there
abbrev pub Gives : {X : Type 0} {k : ℕ} → (X → Element k) → ℕ → (ℕ → X → Type 0) → (ℕ → Element k) → Type 0
Gives {X} means n post f = (i : ℕ) (x : X) → i < n → post i x → means x ≡ f i
