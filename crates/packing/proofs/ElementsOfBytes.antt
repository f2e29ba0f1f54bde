-- A packed element, made from its bytes.
use Rattle.std.proofs.Common.{◌≡◌, ℕ, zero, suc, ◌+◌, ◌-◌, ◌*◌, ◌/◌, ◌%◌, ◌^◌, ◌<◌, ◌≤◌, List, ◌++◌, length, get_or, take, drop, replicate, sym, refl, ap, ◌∙◌, ap₂, ⊎_elim, add-mul, mul_left_comm, arith, length-drop, length-take-le, pow_pos, pow-add}
use native.Mathlib.Nat.{mod-mod}
use Rattle.std.proofs.lemmas.List.{get_or_append_left, get_or-append_right, get_or-take, get_or-drop}
use Rattle.std.proofs.lemmas.Bool.{cases_lt}
use Rattle.level.specs.Element.{Element, width, coordinate}
use Rattle.level.specs.Bytes.{from_sixteen, Octets, num_bytes}
use Rattle.level.proofs.Digits.{bytes_are_coordinates}
use Rattle.multilinear.specs.Cells.{cell, packed}
use Rattle.multilinear.proofs.Coordinates.{by_coordinates, coordinate_gather}

-- a level of whole bytes
whole_bytes : (k : ℕ) → 3 ≤ k → 2 ^ k ≡ 8 * num_bytes k
whole_bytes k h =
    let e : k ≡ (k - 3) + 3 = omega arith in
    omega (arith, ap (λ i. 2 ^ i) e, pow-add 2 (k - 3) 3, pow_pos (k - 3))

getD_zeroes : (n i : ℕ) → ◌≡◌ {A = ℕ} (get_or (replicate n 0) i 0) 0
getD_zeroes zero i = refl
getD_zeroes (suc n) zero = refl
getD_zeroes (suc n) (suc i) = getD_zeroes n i

-- some bytes, then zeroes
module _ (bytes : List ℕ) (start len : ℕ) where
  padded : List ℕ
  padded = take len (drop start bytes) ++ drop len (replicate 16 0)

  module _ (h : start + len ≤ length bytes) where
    taken_length : length (take len (drop start bytes)) ≡ len
    taken_length = length-take-le len (drop start bytes) (omega (arith, length-drop start bytes))

    padded_at : (j : ℕ) → j < len → get_or padded j 0 ≡ get_or bytes (start + j) 0
    unfolding padded
    padded_at j l =
        let l' : j < length (take len (drop start bytes)) = omega (arith, taken_length) in
        get_or_append_left _ _ 0 j l' ∙ get_or-take len (drop start bytes) j 0 l ∙ get_or-drop start bytes j 0

    padded_octets : Octets bytes → Octets padded
    unfolding padded
    padded_octets o j =
        ⊎_elim (λ l. omega (arith, padded_at j l, o (start + j)))
        (λ l. omega (arith, get_or-append_right (take len (drop start bytes)) (drop len (replicate 16 0)) len j 0 taken_length l ∙ get_or-drop len (replicate 16 0) (j - len) 0 ∙ getD_zeroes 16 (len + (j - len))))
        (cases_lt j len)

-- the cell of a packed element's coordinate
cell_at : (bytes : List ℕ) (k w u : ℕ) → 3 ≤ k → cell bytes (w * width k + u) ≡ get_or bytes (w * num_bytes k + u / 8) 0 / 2 ^ (u % 8) % 2
unfolding cell
cell_at bytes k w u h =
    let c = w * width k + u in
    let m = w * num_bytes k in
    let e : w * width k ≡ 8 * m = ap (λ n. w * n) (whole_bytes k h) ∙ mul_left_comm w 8 (num_bytes k) in
    let row : c / 8 ≡ m + u / 8 = omega arith in
    let bit : c % 8 ≡ u % 8 = omega arith in
    ap₂ (λ i b. get_or bytes i 0 / 2 ^ b % 2) row bit

pub packed_from_bytes : (k : ℕ) (bytes : List ℕ) (w len : ℕ) (bs : List ℕ) (x : Element k) → 3 ≤ k → Octets bytes → len ≡ num_bytes k
    → (w + 1) * num_bytes k ≤ length bytes → bs ≡ take len (drop (w * len) bytes) ++ drop len (replicate 16 0) → x ≡ from_sixteen k bs
    → x ≡ packed k (cell bytes) w
unfolding packed padded
packed_from_bytes k bytes w len bs x h o size fits shown made =
    let n = num_bytes k in
    let all : w * n + n ≤ length bytes = omega (arith, add-mul w 1 n) in
    let ps = padded bytes (w * n) n in
    let e : bs ≡ ps = shown ∙ ap (λ l. padded bytes (w * l) l) size in
    made ∙ ap (from_sixteen k) e ∙ by_coordinates _ _ (λ u l.
    let j = u / 8 in
    let b = u % 8 in
    let place : 8 * j + b ≡ u = omega arith in
    let inside : j < n = omega (arith, whole_bytes k h) in
    ap (coordinate (from_sixteen k ps)) (sym place)
    ∙ bytes_are_coordinates.made k ps j b (padded_octets bytes (w * n) n all o) (omega arith) (omega arith)
    ∙ ap (λ v. v / 2 ^ b % 2) (padded_at bytes (w * n) n all j inside)
    ∙ sym (coordinate_gather k (λ v. cell bytes (w * width k + v)) u l ∙ ap (λ v. v % 2) (cell_at bytes k w u h) ∙ mod-mod _ 2))
