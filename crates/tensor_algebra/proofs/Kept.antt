-- A term under a test of which it is known whether it holds.
use Rattle.std.proofs.Common.{◌≡◌, ℕ, Bool, true, false, ap}
use Rattle.level.specs.Element.{Element, zeros}
use Rattle.multilinear.specs.Sums.{where_set}

module _ {k : ℕ} where
  pub where_in : (c : Bool) (x : Element k) → c ≡ true → where_set c x ≡ x
  unfolding where_set
  where_in c x e = ap (λ b. where_set b x) e

  pub where_out : (c : Bool) (x : Element k) → c ≡ false → where_set c x ≡ zeros k
  unfolding where_set
  where_out c x e = ap (λ b. where_set b x) e
