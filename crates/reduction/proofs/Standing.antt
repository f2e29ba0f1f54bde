-- The opening that a stretch holds, read off the front of the stretch.
use Rattle.std.proofs.Common.{zero-add, ◌≡◌, ℕ, ◌+◌, ◌≤◌, ◌-◌, ◌^◌, ◌<◌, List, map, take, sym, ap, ◌∙◌, subst, arith}
use lib.ListN.{length-map}
use Rattle.level.specs.declared.level.Level.{Ghosts}
use Rattle.multilinear.specs.Lent.{lent}
use Rattle.multilinear.proofs.Places.{of_part}
use Rattle.ring_switch.specs.Opening.{variables}
use Rattle.reduction.specs.Layout.{part, point_start, outer_start}
use Rattle.reduction.specs.Stretch.{Fits, Stands, opening_at, opening_in, point_in}
use Rattle.reduction.specs.declared.opened.Opened.{Opened}
use Rattle.reduction.proofs.Cut.{held_part, part_kept}
use Rattle.reduction.proofs.Fitting.{elements_fit}

module _ {X : Type 0} (L : Ghosts X) (c : ℕ) (o : Opened) where
  -- the point that was read off what was cut off the front is the one that the stretch holds
  pub point_read : (b i : ℕ) (point held memory : List X) → o.variables ≤ c → outer_start L.log c ≤ b → point ≡ part (point_start L.log c) o.variables held
      → held ≡ take i memory → i ≡ b → point ≡ point_in L c o memory
  point_read b i point held memory within h e front at = held_part (point_start L.log c) o.variables b i point held memory e front at (omega (arith, h, within))

  -- what stands below a start that is kept stands there still
  pub point_kept : (b : ℕ) (xs ys : List X) → o.variables ≤ c → outer_start L.log c ≤ b → take b xs ≡ take b ys → point_in L c o xs ≡ point_in L c o ys
  point_kept b xs ys within h e = part_kept (point_start L.log c) o.variables b xs ys e (omega (arith, h, within))

  pub stands_kept : (b : ℕ) (xs ys : List X) → outer_start L.log c ≤ b → take b xs ≡ take b ys → Stands L c o xs → Stands L c o ys
  stands_kept b xs ys h e s = record {
    within = s.within;
    fits = subst (Fits L o) (point_kept b xs ys s.within h e) s.fits;
  }

  -- the packed elements of the opened table that were read off the front
  pub elements_read : (b i : ℕ) (packed held memory : List X) → o.variables ≤ c → outer_start L.log c ≤ b → packed ≡ part 0 (2 ^ (o.variables - L.log)) held
      → held ≡ take i memory → i ≡ b → packed ≡ part 0 (2 ^ (o.variables - L.log)) memory
  elements_read b i packed held memory within h e front at =
      held_part 0 (2 ^ (o.variables - L.log)) b i packed held memory e front at (omega (arith, h, elements_fit L.log c o.variables within))

  -- an element below a start that is kept
  pub lent_kept : (b : ℕ) (xs ys : List X) → take b xs ≡ take b ys → (w : ℕ) → w < b → lent L.means xs w ≡ lent L.means ys w
  lent_kept b xs ys e w h =
      let f : (zs : List X) → lent L.means zs w ≡ lent L.means (take b zs) w = λ zs. sym (of_part L.means 0 b zs w h ∙ ap (lent L.means zs) (zero-add w)) in
      f xs ∙ ap (λ zs. lent L.means zs w) e ∙ sym (f ys)

  -- how many coordinates the opening keeps
  pub variables_are : (xs : List X) → Stands L c o xs → variables (opening_in L c o xs) ≡ o.variables - L.log
  variables_are xs s = ap (λ n. n - L.log) (length-map (point_in L c o xs) L.means ∙ s.fits.len)
