-- The closing elements over a slot and a point that are lent.
use Rattle.std.proofs.Common.{◌≡◌, ℕ, ◌+◌, ◌-◌, ◌<◌, ◌≤◌, List, map, length, get_or, reverse, take, drop, sym, refl, ap, ◌∙◌, ap₂, arith}
use lib.ListN.{length-map}
use Rattle.std.proofs.lemmas.List.{take-map, drop-map, length-reverse, get_or-reverse}
use Rattle.level.specs.Element.{Element}
use Rattle.level.specs.Laws.{Arithmetic}
use Rattle.tensor_algebra.specs.Tensor.{Tensor, nothing, exterior, add, product, successor_element, equality_factors}
use Rattle.ring_switch.specs.Batching.{carry_element, last_element}
use Rattle.tensor.proofs.Folds.{left, none_left}
use Rattle.tensor.proofs.Tensors.{nothing_add}

module _ {X : Type 0} {k : ℕ} (means : X → Element k) (A : Arithmetic k) where
  -- the product of the coordinates from i on
  module _ (xs : List X) where
    unfoldable pub product_from : ℕ → Element k
    product_from i = product A (drop i (map means xs))

    pub product_none : (i : ℕ) (s : Element k) → length xs ≤ i → s ≡ A.unit → s ≡ product_from i
    unfolding product_from product
    product_none i s h e = e ∙ sym (ap (product A) (none_left means xs i h))

    -- n coordinates were read, from the last on
    pub product_more : (n m : ℕ) (x : X) (s r : Element k) → m ≡ n + 1 → n < length (reverse xs) → x ≡ get_or (reverse xs) n x → r ≡ A.times (means x) s
        → s ≡ product_from (length xs - n) → r ≡ product_from (length xs - m)
    unfolding product_from product
    product_more n m x s r more h read made e =
        let inside : n < length xs = omega (arith, length-reverse xs) in
        let i = length xs - m in
        let back : length xs - n ≡ i + 1 = omega arith in
        let place : length xs - 1 - n ≡ i = omega arith in
        let item : x ≡ get_or xs i x = read ∙ get_or-reverse xs n x inside ∙ ap (λ j. get_or xs j x) place in
        made ∙ ap (A.times (means x)) (e ∙ ap product_from back) ∙ sym (ap (product A) (left means xs i x (omega arith) item))

    pub product_all : (i : ℕ) (s : Element k) → i ≤ 0 → s ≡ product_from i → s ≡ product A (map means xs)
    unfolding product_from
    product_all i s h e = let none : i ≡ 0 = omega arith in e ∙ ap product_from none

  -- the parts of a point, where another has as many coordinates
  before_rows : (r : ℕ) (ws xs zs : List X) → length xs ≡ length ws → zs ≡ take (length xs - r) xs
      → map means zs ≡ take (length (map means ws) - r) (map means xs)
  before_rows r ws xs zs same e =
      ap (map means) e ∙ sym (take-map means (length xs - r) xs) ∙ ap (λ l. take (l - r) (map means xs)) (same ∙ sym (length-map ws means))

  last_rows : (r : ℕ) (ws xs zs : List X) → length xs ≡ length ws → zs ≡ drop (length xs - r) xs
      → map means zs ≡ drop (length (map means ws) - r) (map means xs)
  last_rows r ws xs zs same e =
      ap (map means) e ∙ sym (drop-map means (length xs - r) xs) ∙ ap (λ l. drop (l - r) (map means xs)) (same ∙ sym (length-map ws means))

  -- the closing elements from the parts of the slot and of the point
  module _ (r : ℕ) (xs ys xs₀ xs₁ ys₀ ys₁ : List X) (same : length ys ≡ length xs)
      (a₀ : xs₀ ≡ take (length xs - r) xs) (a₁ : xs₁ ≡ drop (length xs - r) xs)
      (b₀ : ys₀ ≡ take (length ys - r) ys) (b₁ : ys₁ ≡ drop (length ys - r) ys) where
    pub carry_made : (t s : Tensor k) → t ≡ successor_element A (map means xs₁) (map means ys₁)
        → s ≡ equality_factors A (map means xs₀) (map means ys₀) t → s ≡ carry_element A r (map means xs) (map means ys)
    unfolding carry_element
    carry_made t s first made =
        made ∙ ap₂ (λ p q. equality_factors A p q t) (before_rows r xs xs xs₀ refl a₀) (before_rows r xs ys ys₀ same b₀)
        ∙ ap (equality_factors A _ _) (first ∙ ap₂ (successor_element A) (last_rows r xs xs xs₁ refl a₁) (last_rows r xs ys ys₁ same b₁))

    pub last_made : (none t s : Tensor k) → none ≡ nothing → t ≡ add none (exterior (product A (map means xs₁)) (product A (map means ys₁)))
        → s ≡ equality_factors A (map means xs₀) (map means ys₀) t → s ≡ last_element A r (map means xs) (map means ys)
    unfolding last_element
    last_made none t s cleared first made =
        let legs : Tensor k = exterior (product A (map means xs₁)) (product A (map means ys₁)) in
        made ∙ ap₂ (λ p q. equality_factors A p q t) (before_rows r xs xs xs₀ refl a₀) (before_rows r xs ys ys₀ same b₀)
        ∙ ap (equality_factors A _ _)
        (first ∙ ap (λ u. add u legs) cleared ∙ nothing_add legs
        ∙ ap₂ (λ p q. exterior (product A p) (product A q)) (last_rows r xs xs xs₁ refl a₁) (last_rows r xs ys ys₁ same b₁))
