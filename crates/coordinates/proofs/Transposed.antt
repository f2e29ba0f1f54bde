-- All columns of a tensor, gathered from the coordinates of its rows.
use Rattle.std.proofs.Common.{◌≡◌, ℕ, zero, suc, ◌+◌, ◌-◌, ◌*◌, ◌/◌, ◌%◌, ◌^◌, ◌<◌, ◌≤◌, ◌≢◌, List, length, get_or, take, reverse, set, sym, ap, ◌∙◌, ap₂, mul_comm, pow-suc, mul_left_comm, arith, pow_mono, below_more}
use mathlib.Core.Path.{fun_ext}
use native.Mathlib.Nat.{mod-mod}
use Rattle.std.proofs.lemmas.Grind.{get_or_default_zero}
use Rattle.std.proofs.lemmas.List.{length-reverse, get_or-reverse, get_or-take, length-take-le, get_or-set_same, get_or-set_other}
use Rattle.level.specs.Element.{Element, width, coordinate, cut, zeros}
use Rattle.level.proofs.Elements.{same, cut_small}
use Rattle.multilinear.specs.Lent.{lent}
use Rattle.multilinear.specs.Gathered.{binary, binary_fits}
use Rattle.multilinear.specs.Cells.{gather}
use Rattle.multilinear.proofs.Lent.{lent_read}
use Rattle.multilinear.proofs.Coordinates.{coordinate_mod, coordinate_past, coordinate_zeros, coordinate_gather, gather_coordinates}
use Rattle.tensor_algebra.specs.Tensor.{Tensor, column}
use Rattle.multilinear.proofs.Places.{Written, written_all}

-- the lowest digit by itself
binary_first : (n : ℕ) (f : ℕ → ℕ) → binary (suc n) f ≡ 2 * binary n (λ j. f (suc j)) + f 0 % 2
unfolding binary
binary_first zero f = omega arith
binary_first (suc n) f =
    let b = f (suc n) % 2 in
    let top : b * 2 ^ suc n ≡ 2 * (b * 2 ^ n) = ap (λ p. b * p) (pow-suc 2 n ∙ mul_comm (2 ^ n) 2) ∙ mul_left_comm b 2 (2 ^ n) in
    omega (arith, binary_first n f, top)

module _ (ns : List ℕ) (v d : ℕ) where
  abbrev digit : ℕ → ℕ
  digit u = get_or ns u 0 / 2 ^ v % 2

  -- the numbers' binary digits v, those of the numbers from i on written as one number
  unfoldable pub digits_from : ℕ → ℕ
  digits_from i = binary (d - i) (λ j. digit (i + j))

  pub digits_none : (i : ℕ) → d ≤ i → 0 ≡ digits_from i
  unfolding digits_from binary
  digits_none i h = let none : 0 ≡ d - i = omega arith in ap (λ n. binary n (λ j. digit (i + j))) none

  pub digits_fit : (i n : ℕ) → 0 < i → d ≤ 128 → n ≡ digits_from i → n < 2 ^ 127
  unfolding digits_from
  digits_fit i n some few e =
      let short : d - i ≤ 127 = omega arith in
      let less : 2 ^ (d - i) ≤ 2 ^ 127 = pow_mono short in
      omega (arith, binary_fits (d - i) (λ j. digit (i + j)))

  digits_more : (i s r : ℕ) → 0 < i → i ≤ d → r ≡ 2 * s + get_or ns (i - 1) 0 / 2 ^ v % 2 → s ≡ digits_from i → r ≡ digits_from (i - 1)
  unfolding digits_from
  digits_more i s r some h made e =
      let one_more : suc (d - i) ≡ d - (i - 1) = omega arith in
      let here : i - 1 + 0 ≡ i - 1 = omega arith in
      let rest : (λ j. digit (i + j)) ≡ (λ j. digit (i - 1 + suc j)) = fun_ext (λ j. ap digit (omega arith)) in
      made ∙ ap₂ (λ p q. 2 * p + q) (e ∙ ap (binary (d - i)) rest) (sym (mod-mod _ 2) ∙ ap (λ u. digit u % 2) (sym here))
      ∙ sym (binary_first (d - i) (λ j. digit (i - 1 + j))) ∙ ap (λ n. binary n (λ j. digit (i - 1 + j))) one_more

  pub digits_all : (i s : ℕ) → i ≤ 0 → s ≡ digits_from i → s ≡ binary d (λ u. get_or ns u 0 / 2 ^ v % 2)
  unfolding digits_from
  digits_all i s h e =
      let all : d - i ≡ d = omega arith in
      e ∙ ap₂ binary all (fun_ext (λ j. ap digit (omega arith)))

-- one more number, read from the last on
pub digits_turn : (ns : List ℕ) (v n m s r x : ℕ) → m ≡ n + 1 → n < length (reverse ns) → x ≡ get_or (reverse ns) n x → r ≡ 2 * s + x / 2 ^ v % 2
    → s ≡ digits_from ns v (length ns) (length ns - n) → r ≡ digits_from ns v (length ns) (length ns - m)
digits_turn ns v n m s r x more h read made e =
    let i = length ns - n in
    let inside : n < length ns = omega (arith, length-reverse ns) in
    let place : length ns - 1 - n ≡ i - 1 = omega arith in
    let item : x ≡ get_or ns (i - 1) 0 =
    read ∙ get_or-reverse ns n x inside ∙ ap (λ j. get_or ns j x) place ∙ get_or_default_zero ns (i - 1) x (omega arith) in
    let next : i - 1 ≡ length ns - m = omega arith in
    digits_more ns v (length ns) i s r (omega arith) (omega arith) (made ∙ ap (λ y. 2 * s + y / 2 ^ v % 2) item) e ∙ ap (digits_from ns v (length ns)) next

-- a number that has the width's binary digits, as an element
cut_binary : (k n : ℕ) (f : ℕ → ℕ) → n ≡ binary (width k) f → cut k n ≡ gather k f
unfolding gather
cut_binary k n f e = ap (cut k) e ∙ same _ _ (cut_small k _ (binary_fits (width k) f))

-- past the last column
pub column_past : {k : ℕ} (t : Tensor k) (v : ℕ) → width k ≤ v → column t v ≡ zeros k
unfolding column
column_past {k} t v h =
    gather_coordinates (zeros k) _ (λ u _. coordinate_mod (t u) v ∙ coordinate_past (t u) v h ∙ sym (coordinate_zeros k u))

-- a coordinate of a column
column_coordinate : {k : ℕ} (t : Tensor k) (u v : ℕ) → u < width k → coordinate (column t v) u ≡ coordinate (t u) v
unfolding column
column_coordinate {k} t u v h = coordinate_gather k (λ i. coordinate (t i) v) u h ∙ coordinate_mod (t u) v

module _ {X : Type 0} {k : ℕ} (means : X → Element k) where
  -- the coordinates of the first i rows
  abbrev pub Read : List X → List ℕ → ℕ → Type 0
  Read xs ns i = (u : ℕ) → u < i → get_or ns u 0 ≡ (lent means xs u).number

  pub read_more : (xs : List X) (ns : List ℕ) (i : ℕ) (x : X) (n : ℕ) → i < length xs → i < length ns → x ≡ get_or xs i x → n ≡ (means x).number
      → Read xs ns i → Read xs (set ns i n) (i + 1)
  read_more xs ns i x n h l read made r =
      below_more _ i
      (λ u b. let ne : u ≢ i = omega arith in get_or-set_other ns i u n 0 ne ∙ r u b)
      (get_or-set_same ns i n 0 l ∙ made ∙ ap (λ y. y.number) (lent_read means xs i x h read))

  -- a column from the coordinates of all rows
  column_of : (xs : List X) (ns : List ℕ) (v d n : ℕ) (x : Element k) → d ≡ width k → Read xs ns (width k)
      → n ≡ binary d (λ u. get_or ns u 0 / 2 ^ v % 2) → x ≡ cut k n → x ≡ column (lent means xs) v
  unfolding column
  column_of xs ns v d n x wide r gathered made =
      let digit : ℕ → ℕ = λ u. get_or ns u 0 / 2 ^ v % 2 in
      made ∙ cut_binary k n digit (gathered ∙ ap (λ w. binary w digit) wide)
      ∙ gather_coordinates (column (lent means xs) v) _ (λ u h.
      mod-mod (get_or ns u 0 / 2 ^ v) 2 ∙ ap (λ m. m / 2 ^ v % 2) (r u h)
      ∙ sym (column_coordinate (lent means xs) u v h))

  -- the same, where they are the first of a longer list
  pub column_from : (xs : List X) (ns : List ℕ) (v d n : ℕ) (x : Element k) → d ≡ width k → d ≤ length ns → Read xs ns (width k)
      → n ≡ binary (length (take d ns)) (λ u. get_or (take d ns) u 0 / 2 ^ v % 2) → x ≡ cut k n → x ≡ column (lent means xs) v
  column_from xs ns v d n x wide few r gathered made =
      let ms = take d ns in
      column_of xs ms v (length ms) n x (length-take-le d ns few ∙ wide) (λ u h. get_or-take d ns u 0 (omega arith) ∙ r u h) gathered made

  pub columns_all : (xs ys zs : List X) (i : ℕ) → length ys ≡ width k → length ys ≤ i → Written means (column (lent means xs)) ys zs i
      → lent means zs ≡ column (lent means xs)
  columns_all xs ys zs i wide h w = written_all means _ ys zs i h (λ j l. column_past (lent means xs) j (omega arith)) w
