-- What a stretch holds of an opening.
use Rattle.std.specs.Prelude.{◌≡◌, ℕ, ◌≤◌, List, map, length}
use Rattle.level.specs.Element.{Element, width}
use Rattle.level.specs.declared.level.Level.{Ghosts}
use Rattle.multilinear.specs.Lent.{lent}
use Rattle.ring_switch.specs.Opening.{Opening, named, prefix}
use Rattle.reduction.specs.Layout.{part, point_start}
use Rattle.reduction.specs.declared.opened.Opened.{Opened}

module _ {X : Type 0} (L : Ghosts X) where
  -- an element for each coordinate, from a place on
  abbrev pub rows_in : ℕ → List X → ℕ → Element L.log
  rows_in start xs = lent L.means (part start (width L.log) xs)

  -- the opening at the point that elements are
  abbrev pub opening_at : Opened → List X → Opening L.log
  opening_at o xs = record { point = map L.means xs; view = o.view }

  -- the numbers of an opening are those of the point that elements are
  pub record Fits (o : Opened) (xs : List X) : Type 0 where
    pub len : length xs ≡ o.variables
    pub absorbs : L.log ≤ o.variables
    pub rows : named o.view ≤ o.variables
    pub counted : o.prefix.0 ≡ (prefix L.arithmetic (opening_at o xs)).count
    pub spelt : o.prefix.1 ≡ (prefix L.arithmetic (opening_at o xs)).address

  -- the point of an opening, as a stretch for points of up to c coordinates holds it
  abbrev pub point_in : ℕ → Opened → List X → List X
  point_in c o xs = part (point_start L.log c) o.variables xs

  abbrev pub opening_in : ℕ → Opened → List X → Opening L.log
  opening_in c o xs = opening_at o (point_in c o xs)

  -- an opening stands in such a stretch
  pub record Stands (c : ℕ) (o : Opened) (xs : List X) : Type 0 where
    pub within : o.variables ≤ c
    pub fits : Fits o (point_in c o xs)
