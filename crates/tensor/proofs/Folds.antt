-- Tensors of two points, folded over their coordinates.
use Rattle.std.proofs.Common.{◌≡◌, ℕ, ◌+◌, ◌-◌, ◌^◌, ◌<◌, ◌≤◌, List, [], ◌∷◌, map, length, get_or, drop, reverse, sym, refl, ap, ◌∙◌, ap₂, arith}
use mathlib.Core.Path.{fun_ext}
use lib.ListN.{length-map}
use Rattle.std.proofs.lemmas.List.{drop_all, drop_more, length-reverse, get_or-reverse}
use Rattle.std.proofs.lemmas.Slice.Zip.{length-zip, get_or-zip}
use Rattle.std.specs.List.{zip}
use Rattle.level.specs.Element.{Element, plus, zeros}
use Rattle.level.specs.Laws.{Arithmetic, Laws}
use Rattle.level.proofs.Elements.{zeros_plus}
use Rattle.multilinear.specs.Equality.{Point, equality}
use Rattle.multilinear.specs.Sums.{sum}
use Rattle.multilinear.proofs.Lent.{lent_read}
use Rattle.multilinear.proofs.Sums.{sum_same}
use Rattle.tensor_algebra.specs.Tensor.{Tensor, nothing, exterior, add, one, equality_factor, equality_factors, equality_element, successor_element, product}
use Rattle.tensor_algebra.proofs.Factors.{exteriors, factors_exteriors, equality_exteriors}

module _ {k : ℕ} {A : Arithmetic k} (laws : Laws A) where
  -- a sum of one term
  single : (a b : ℕ → Element k) (u : ℕ) → exteriors 1 a b u ≡ exterior (a 0) (b 0) u
  unfolding sum
  single a b u = zeros_plus _

  -- The equality element is the product of the equality factors: in a ring where x + x = 0, 1 + a ⊗ 1 + 1 ⊗ b is
  -- a ⊗ b + (1 + a) ⊗ (1 + b).
  pub element_of_factors : (p q : Point k) → length q ≡ length p → equality_factors A p q (one A) ≡ equality_element A p q
  unfolding one
  element_of_factors p q e =
      let one-term : exterior A.unit A.unit ≡ exteriors 1 (λ _. A.unit) (λ _. A.unit) = fun_ext (λ u. sym (single _ _ u)) in
      ap (equality_factors A p q) one-term
      ∙ fun_ext (λ u. factors_exteriors laws p q e 1 (λ _. A.unit) (λ _. A.unit) u
      ∙ sum_same (2 ^ length p) _ _ (λ j _. single _ _ u ∙ ap₂ (λ s t. exterior s t u) (laws.times_unit (equality A p j)) (laws.times_unit (equality A q j))))
      ∙ sym (equality_exteriors laws p q e)

  -- the same, of rows that were one at first
  pub element_made : {X : Type 0} (means : X → Element k) (xs ys : List X) (t s : Tensor k) → length ys ≡ length xs → t ≡ one A
      → s ≡ equality_factors A (map means xs) (map means ys) t → s ≡ equality_element A (map means xs) (map means ys)
  element_made means xs ys t s e first made =
      made ∙ ap (equality_factors A (map means xs) (map means ys)) first
      ∙ element_of_factors (map means xs) (map means ys) (length-map ys means ∙ e ∙ sym (length-map xs means))

-- the coordinates of two points, read from the last on
pub from_last : {X : Type 0} (xs ys : List X) (n : ℕ) (x y : X) → length ys ≡ length xs → n < length (zip (reverse xs) (reverse ys))
    → (x, y) ≡ get_or (zip (reverse xs) (reverse ys)) n (x, y)
    → (n < length xs) × (x ≡ get_or xs (length xs - n - 1) x) × (y ≡ get_or ys (length xs - n - 1) y)
from_last xs ys n x y same h read =
    let inside : n < length xs = omega (arith, length-zip (reverse xs) (reverse ys), length-reverse xs, length-reverse ys) in
    let place : length xs - 1 - n ≡ length xs - n - 1 = omega arith in
    let other : length ys - 1 - n ≡ length xs - n - 1 = omega arith in
    let pair = read ∙ get_or-zip (reverse xs) (reverse ys) n (x, y) (omega (arith, length-reverse xs)) (omega (arith, length-reverse ys)) in (
      inside,
      ap (λ p. p.0) pair ∙ get_or-reverse xs n x inside ∙ ap (λ i. get_or xs i x) place,
      ap (λ p. p.1) pair ∙ get_or-reverse ys n y (omega arith) ∙ ap (λ i. get_or ys i y) other,
    )

module _ {X : Type 0} {k : ℕ} (means : X → Element k) where
  -- what is left of a point begins with the coordinate that is read
  pub left : (xs : List X) (i : ℕ) (x : X) → i < length xs → x ≡ get_or xs i x → drop i (map means xs) ≡ means x ∷ drop (i + 1) (map means xs)
  left xs i x h read =
      drop_more (map means xs) i (zeros k) (rw length-map h) ∙ ap (λ y. y ∷ drop (i + 1) (map means xs)) (sym (lent_read means xs i x h read))

  pub none_left : (xs : List X) (i : ℕ) → length xs ≤ i → drop i (map means xs) ≡ []
  none_left xs i h = drop_all i (map means xs) (rw length-map h)

  module _ (A : Arithmetic k) (xs ys : List X) where
    -- the factors of the coordinates from i on, on t
    unfoldable pub factors_from : ℕ → Tensor k → Tensor k
    factors_from i t = equality_factors A (drop i (map means xs)) (drop i (map means ys)) t

    pub factors_none : (t : Tensor k) → factors_from 0 t ≡ equality_factors A (map means xs) (map means ys) t
    unfolding factors_from
    factors_none t = refl

    pub factors_more : (t s r : Tensor k) (i j : ℕ) (x y : X) → i < length xs → i < length ys → x ≡ get_or xs i x → y ≡ get_or ys i y
        → j ≡ i + 1 → s ≡ equality_factor A (means x) (means y) t → factors_from i t ≡ r → factors_from j s ≡ r
    unfolding factors_from equality_factors
    factors_more t s r i j x y h l first second more made e =
        ap₂ factors_from more made ∙ sym (ap₂ (λ p q. equality_factors A p q t) (left xs i x h first) (left ys i y l second)) ∙ e

    pub factors_all : (t r : Tensor k) (i : ℕ) → length xs ≤ i → factors_from i t ≡ r → t ≡ r
    unfolding factors_from equality_factors
    factors_all t r i h e = sym (ap (λ p. equality_factors A p (drop i (map means ys)) t) (none_left xs i h)) ∙ e

    -- the successor element and the legs of the carry, of the coordinates from i on
    pub record Folded (i : ℕ) (t : Tensor k) (a b : Element k) : Type 0 where
      pub element : t ≡ successor_element A (drop i (map means xs)) (drop i (map means ys))
      pub first : a ≡ product A (drop i (map means xs))
      pub second : b ≡ product A (map (plus A.unit) (drop i (map means ys)))

    pub folded_none : (i : ℕ) (t : Tensor k) (a b : Element k) → length xs ≤ i → length ys ≤ i → t ≡ nothing → a ≡ A.unit → b ≡ A.unit → Folded i t a b
    unfolding successor_element product
    folded_none i t a b h l none one-first one-second =
        let p = none_left xs i h in
        let q = none_left ys i l in record {
          element = none ∙ sym (ap₂ (successor_element A) p q);
          first = one-first ∙ sym (ap (product A) p);
          second = one-second ∙ sym (ap (λ r. product A (map (plus A.unit) r)) q);
        }

    pub folded_more : (i j : ℕ) (t s : Tensor k) (a b a' b' : Element k) (x y : X) → j ≡ i - 1 → 0 < i → i ≤ length xs → length ys ≡ length xs
        → x ≡ get_or xs (i - 1) x → y ≡ get_or ys (i - 1) y
        → s ≡ add (equality_factor A (means x) (means y) t) (exterior (A.times a (plus A.unit (means x))) (A.times b (means y)))
        → a' ≡ A.times (means x) a → b' ≡ A.times (plus A.unit (means y)) b
        → Folded i t a b → Folded j s a' b'
    unfolding successor_element product
    folded_more i j t s a b a' b' x y before pos h same first second made carried passed f =
        let e : i - 1 + 1 ≡ i = omega arith in
        let p : drop j (map means xs) ≡ means x ∷ drop i (map means xs) =
        ap (λ n. drop n (map means xs)) before ∙ left xs (i - 1) x (omega arith) first ∙ ap (λ j. means x ∷ drop j (map means xs)) e in
        let q : drop j (map means ys) ≡ means y ∷ drop i (map means ys) =
        ap (λ n. drop n (map means ys)) before ∙ left ys (i - 1) y (omega arith) second ∙ ap (λ j. means y ∷ drop j (map means ys)) e in
        record {
          element = made
              ∙ ap (λ r. add (equality_factor A (means x) (means y) r) (exterior (A.times a (plus A.unit (means x))) (A.times b (means y)))) f.element
              ∙ ap₂ (λ c d. add (equality_factor A (means x) (means y) (successor_element A (drop i (map means xs)) (drop i (map means ys)))) (exterior (A.times c (plus A.unit (means x))) (A.times d (means y)))) f.first f.second
              ∙ sym (ap₂ (successor_element A) p q);
          first = carried ∙ ap (A.times (means x)) f.first ∙ sym (ap (product A) p);
          second = passed ∙ ap (A.times (plus A.unit (means y))) f.second ∙ sym (ap (λ r. product A (map (plus A.unit) r)) q);
        }

    pub folded_all : (i : ℕ) (t : Tensor k) (a b : Element k) → i ≤ 0 → Folded i t a b → t ≡ successor_element A (map means xs) (map means ys)
    folded_all i t a b h f =
        let e : i ≡ 0 = omega arith in
        f.element ∙ ap (λ j. successor_element A (drop j (map means xs)) (drop j (map means ys))) e
