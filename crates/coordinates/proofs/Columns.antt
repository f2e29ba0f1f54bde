-- A column of a tensor, coordinate by coordinate.
use Rattle.std.proofs.Common.{◌≡◌, ℕ, ◌+◌, ◌*◌, ◌%◌, ◌^◌, ◌<◌, ◌≤◌, List, length, get_or, sym, refl, ap, ◌∙◌, ap₂, add-one, arith}
use Rattle.level.specs.Element.{Element, width, coordinate, cut}
use Rattle.level.proofs.Elements.{same, cut_small}
use Rattle.multilinear.specs.Lent.{lent}
use Rattle.multilinear.specs.Gathered.{binary, binary_fits}
use Rattle.multilinear.specs.Cells.{gather}
use Rattle.multilinear.proofs.Lent.{lent_read}
use Rattle.multilinear.proofs.Coordinates.{coordinate_mod}
use Rattle.tensor_algebra.specs.Tensor.{column}

module _ {X : Type 0} {k : ℕ} (means : X → Element k) (xs : List X) (v : ℕ) where
  unfoldable pub gathered : ℕ → ℕ
  gathered i = binary i (λ u. coordinate (lent means xs u) v)

  pub gathered_none : 0 ≡ gathered 0
  unfolding gathered binary
  gathered_none = refl

  pub gathered_fits : (i n : ℕ) → n ≡ gathered i → n < 2 ^ i
  unfolding gathered
  gathered_fits i n e = omega (arith, binary_fits i (λ u. coordinate (lent means xs u) v))

  pub gathered_more : (i : ℕ) (x : X) (s r : ℕ) → i < length xs → x ≡ get_or xs i x
      → r ≡ s + coordinate (means x) v * 2 ^ i → s ≡ gathered i → r ≡ gathered (i + 1)
  unfolding gathered binary
  gathered_more i x s r h read made e =
      let row = lent means xs i in
      let set : coordinate (means x) v ≡ coordinate row v % 2 =
      ap (λ y. coordinate y v) (lent_read means xs i x h read) ∙ sym (coordinate_mod row v) in
      made ∙ ap₂ (λ p q. p + q * 2 ^ i) e set ∙ ap gathered (sym (add-one i))

  pub gathered_all : (i n : ℕ) (r : Element k) → length xs ≡ width k → i ≤ length xs → length xs ≤ i → n ≡ gathered i → r ≡ cut k n
      → r ≡ column (lent means xs) v
  unfolding gathered column gather
  gathered_all i n r wide below above e made =
      let all : i ≡ width k = omega arith in
      let whole = e ∙ ap gathered all in
      made ∙ ap (cut k) whole ∙ same _ _ (cut_small k _ (binary_fits (width k) (λ u. coordinate (lent means xs u) v)))
