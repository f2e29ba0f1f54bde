-- Tensors added one after the other, and parts of a lent table.
use Rattle.std.proofs.Common.{◌≡◌, ℕ, ◌+◌, ◌-◌, ◌*◌, ◌/◌, ◌%◌, ◌<◌, ◌≤◌, List, length, get_or, take, drop, sym, ap, ◌∙◌, ap₂, mul-le-mul_right, suc-mul, div-add-mod', div-mul-le_self, add-one, arith, length-drop}
use mathlib.Core.Path.{fun_ext}
use Rattle.std.proofs.lemmas.List.{length-take-le}
use Rattle.level.specs.Element.{Element, plus}
use Rattle.level.proofs.Elements.{plus_assoc, plus_zeros, zeros_plus}
use Rattle.multilinear.specs.Sums.{sum}
use Rattle.multilinear.specs.Lent.{lent}
use Rattle.level.specs.Laws.{Arithmetic}
use Rattle.multilinear.proofs.Lent.{lent_read}
use Rattle.multilinear.proofs.Sums.{sum_same}
use Rattle.tensor_algebra.specs.Tensor.{Tensor, nothing, exterior, add, scale_columns}
use Rattle.multilinear.proofs.Places.{of_part}
use Rattle.ring_switch.specs.Claims.{tensor}
use Rattle.folding.specs.Folds.{block, with_all}

module _ {k : ℕ} (t : Tensor k) (g : ℕ → Tensor k) where
  pub all_none : t ≡ with_all t g 0
  unfolding with_all sum
  all_none = fun_ext (λ u. sym (plus_zeros (t u)))

  pub all_more : (i : ℕ) (s r : Tensor k) → r ≡ add s (g i) → s ≡ with_all t g i → r ≡ with_all t g (i + 1)
  unfolding with_all sum add
  all_more i s r made e =
      made ∙ ap (λ p v. plus (p v) (g i v)) e ∙ fun_ext (λ v. plus_assoc _ _ _) ∙ ap (with_all t g) (sym (add-one i))

-- from nothing
pub all_from_nothing : {k : ℕ} (t : Tensor k) (g : ℕ → Tensor k) (n : ℕ) (u : ℕ) → t ≡ nothing → with_all t g n u ≡ sum n (λ i. g i u)
unfolding with_all nothing
all_from_nothing t g n u none = ap (λ s. plus (s u) (sum n (λ i. g i u))) none ∙ zeros_plus _

-- a block lies within a table of n blocks
pub block_within : (b n len : ℕ) → b < n → b * len + len ≤ n * len
block_within b n len h = omega (arith, mul-le-mul_right len h, suc-mul b len)

pub block_inside : (b n len m l : ℕ) → b < n → len ≡ m → l ≡ n * m → b * len + len ≤ l
block_inside b n len m l h size whole = omega (arith, block_within b n len h, ap (λ i. n * i) size)

-- the length of a block
pub length_part : {X : Type 0} (xs : List X) (b n len : ℕ) → b < n → length xs ≡ n * len → length (take len (drop (b * len) xs)) ≡ len
length_part xs b n len h whole =
    let room : len ≤ length (drop (b * len) xs) = simp length-drop (omega (arith, block_within b n len h)) in
    length-take-le len (drop (b * len) xs) room

module _ {X : Type 0} {k : ℕ} (means : X → Element k) where
  -- one more block
  pub block_more : (A : Arithmetic k) (t : Tensor k) (outers lefts values part : List X) (n b len : ℕ) (weight : X) (s r : Tensor k)
      → len ≡ n → length lefts ≡ n → b < length outers → weight ≡ get_or outers b weight → part ≡ take len (drop (b * len) values)
      → r ≡ add s (scale_columns A (means weight) (tensor (length lefts) (lent means lefts) (lent means part)))
      → s ≡ with_all t (λ i. scale_columns A (lent means outers i) (block n (lent means lefts) (lent means values) i)) b
      → r ≡ with_all t (λ i. scale_columns A (lent means outers i) (block n (lent means lefts) (lent means values) i)) (b + 1)
  unfolding block tensor
  block_more A t outers lefts values part n b len weight s r size shared within read cut made e =
      all_more t (λ i. scale_columns A (lent means outers i) (block n (lent means lefts) (lent means values) i)) b s r
      (made ∙ ap₂ (λ w x. add s (scale_columns A w x)) (lent_read means outers b weight within read)
      (fun_ext (λ u. ap (λ c. sum c (λ j. exterior (lent means lefts j) (lent means part j) u)) shared
      ∙ sum_same n _ _ (λ j h. ap (λ x. exterior (lent means lefts j) x u)
      (ap (λ ys. lent means ys j) cut ∙ of_part means (b * len) len values j (omega arith) ∙ ap (λ c. lent means values (b * c + j)) size))))) e

-- the last entry of a column lies in a table of whole columns of w entries
pub column_within : (c w l : ℕ) → 0 < w → c < l / w → c * w + (w - 1) < l
column_within c w l some h = omega (arith, block_within c (l / w) w h, div-mul-le_self l w)

-- a table of whole columns
pub whole_columns : (w l : ℕ) → l % w ≡ 0 → l ≡ l / w * w
whole_columns w l h = omega (arith, div-add-mod' l w)
