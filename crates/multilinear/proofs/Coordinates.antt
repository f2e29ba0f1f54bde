-- Elements by their coordinates: what is gathered, summed or left out, coordinate by coordinate.
use Rattle.std.proofs.Common.{◌≡◌, ℕ, zero, suc, ◌+◌, ◌*◌, ◌/◌, ◌%◌, ◌^◌, ◌<◌, ◌≤◌, sym, refl, ap, ◌∙◌, ap₂, ⊎_elim, mod-lt, mod-eq_of_lt, add_comm, arith, pow_pos}
use native.Mathlib.Nat.{zero-div}
use lib.Bits.{bit_xor, xor_shr, xor_mod}
use lib.Pow.{high, low, mod-pow-add}
use Rattle.std.proofs.lemmas.Bool.{cases_lt}
use Rattle.level.specs.Element.{Element, width, coordinate, plus, zeros}
use Rattle.level.proofs.Elements.{same, plus_is, zeros_is}
use Rattle.level.proofs.Digits.{low_bit, bytes_are_coordinates}
use Rattle.multilinear.specs.Sums.{sum, at_bit}
use Rattle.multilinear.specs.Gathered.{binary, binary_fits}
use Rattle.multilinear.specs.Cells.{gather}

-- numbers with the same binary digits below w are the same modulo 2^w
digits_same : (w n m : ℕ) → ((u : ℕ) → u < w → n / 2 ^ u % 2 ≡ m / 2 ^ u % 2) → n % 2 ^ w ≡ m % 2 ^ w
digits_same zero n m e = omega arith
digits_same (suc w) n m e =
    let p : suc w ≡ 1 + w = omega arith in
    let rest = digits_same w n m (λ u h. e u (omega arith)) in
    ap (λ i. n % 2 ^ i) p ∙ mod-pow-add n 1 w ∙ ap₂ (λ a b. a * 2 ^ w + b) (e w (omega arith)) rest
    ∙ sym (mod-pow-add m 1 w) ∙ ap (λ i. m % 2 ^ i) (sym p)

-- a binary digit of the number that digits write
binary_digit : (n : ℕ) (f : ℕ → ℕ) (v : ℕ) → v < n → binary n f / 2 ^ v % 2 ≡ f v % 2
unfolding binary
binary_digit zero f v h = omega arith
binary_digit (suc n) f v h =
    let s = add_comm (binary n f) (f n % 2 * 2 ^ n) in
    let above : v ≡ n → binary (suc n) f / 2 ^ v % 2 ≡ f v % 2 =
    λ e. let q = ap (λ i. i / 2 ^ n) s ∙ high (f n % 2) n (binary_fits n f) in
    ap (λ i. binary (suc n) f / 2 ^ i % 2) e ∙ ap (λ i. i % 2) q ∙ mod-eq_of_lt (mod-lt (f n) (pow_pos 1)) ∙ ap (λ i. f i % 2) (sym e) in
    let below : v < n → binary (suc n) f / 2 ^ v % 2 ≡ f v % 2 =
    λ l. let q = ap (λ i. i % 2 ^ n) s ∙ low (f n % 2) n (binary_fits n f) in
    sym (low_bit (binary (suc n) f) n v l) ∙ ap (λ i. i / 2 ^ v % 2) q ∙ binary_digit n f v l in
    ⊎_elim below (λ g. above (omega arith)) (cases_lt v n)

-- the exclusive-or of f(0), .., f(n - 1)
unfoldable pub xor_sum : ℕ → (ℕ → ℕ) → ℕ
xor_sum zero f = 0
xor_sum (suc n) f = bit_xor (xor_sum n f) (f n)

pub xor_sum_same : (n : ℕ) (f g : ℕ → ℕ) → ((i : ℕ) → i < n → f i ≡ g i) → xor_sum n f ≡ xor_sum n g
unfolding xor_sum
xor_sum_same zero f g e = refl
xor_sum_same (suc n) f g e = ap₂ bit_xor (xor_sum_same n f g (λ i h. e i (omega arith))) (e n (omega arith))

pub coordinate_zeros : (k u : ℕ) → coordinate (zeros k) u ≡ 0
coordinate_zeros k u = ap (λ n. n / 2 ^ u % 2) (zeros_is k) ∙ ap (λ n. n % 2) (zero-div (2 ^ u))

-- a coordinate of what is gathered
pub coordinate_gather : (k : ℕ) (f : ℕ → ℕ) (v : ℕ) → v < width k → coordinate (gather k f) v ≡ f v % 2
unfolding gather
coordinate_gather k f v h = binary_digit (width k) f v h

module _ {k : ℕ} where
  -- elements with the same coordinates are the same
  pub by_coordinates : (x y : Element k) → ((u : ℕ) → u < width k → coordinate x u ≡ coordinate y u) → x ≡ y
  by_coordinates x y e =
      same x y (sym (mod-eq_of_lt x.fits) ∙ digits_same (width k) x.number y.number e ∙ mod-eq_of_lt y.fits)

  -- a coordinate is 0 or 1
  pub coordinate_binary : (x : Element k) (u : ℕ) → coordinate x u < 2
  coordinate_binary x u = omega arith

  pub coordinate_mod : (x : Element k) (u : ℕ) → coordinate x u % 2 ≡ coordinate x u
  coordinate_mod x u = mod-eq_of_lt (coordinate_binary x u)

  -- no coordinate is set past the width
  pub coordinate_past : (x : Element k) (u : ℕ) → width k ≤ u → coordinate x u ≡ 0
  coordinate_past x u h = bytes_are_coordinates.past_width x u (omega arith)

  -- a coordinate of a sum
  pub coordinate_plus : (x y : Element k) (u : ℕ) → coordinate (plus x y) u ≡ bit_xor (coordinate x u) (coordinate y u)
  coordinate_plus x y u = ap (λ n. n / 2 ^ u % 2) (plus_is x y) ∙ ap (λ n. n % 2) (xor_shr x.number y.number u) ∙ xor_mod _ _ 1

  pub coordinate_sum : (n : ℕ) (f : ℕ → Element k) (u : ℕ) → coordinate (sum n f) u ≡ xor_sum n (λ i. coordinate (f i) u)
  unfolding sum xor_sum
  coordinate_sum zero f u = coordinate_zeros k u
  coordinate_sum (suc n) f u = coordinate_plus (sum n f) (f n) u ∙ ap (λ b. bit_xor b (coordinate (f n) u)) (coordinate_sum n f u)

  -- an element is gathered from its coordinates
  pub gather_coordinates : (x : Element k) (f : ℕ → ℕ) → ((u : ℕ) → u < width k → f u % 2 ≡ coordinate x u) → gather k f ≡ x
  gather_coordinates x f e = by_coordinates (gather k f) x (λ u h. coordinate_gather k f u h ∙ e u h)

  -- x where a bit of y is set, and y where a bit of x is set, have those two bits alike
  bits_alike : (a b : ℕ) (x y : Element k) (u v : ℕ) → a < 2 → b < 2 → coordinate x u ≡ a → coordinate y v ≡ b
      → coordinate (at_bit a y) v ≡ coordinate (at_bit b x) u
  unfolding at_bit
  bits_alike zero zero x y u v _ _ p q = coordinate_zeros k v ∙ sym (coordinate_zeros k u)
  bits_alike zero (suc b) x y u v _ _ p q = coordinate_zeros k v ∙ sym p
  bits_alike (suc a) zero x y u v _ _ p q = q ∙ sym (coordinate_zeros k u)
  bits_alike (suc a) (suc b) x y u v g h p q = let e : suc b ≡ suc a = omega (arith, g, h) in q ∙ e ∙ sym p

  -- Of elements f(0), f(1), .. the coordinates v, gathered: of sums, the sum of what is gathered of the terms.
  pub gather_sum : (n v : ℕ) (f : ℕ → ℕ → Element k)
      → gather k (λ u. coordinate (sum n (λ i. f i u)) v) ≡ sum n (λ i. gather k (λ u. coordinate (f i u) v))
  gather_sum n v f =
      gather_coordinates _ _ (λ u h.
      coordinate_mod (sum n (λ i. f i u)) v ∙ coordinate_sum n (λ i. f i u) v
      ∙ xor_sum_same n _ _ (λ i l. sym (coordinate_gather k (λ u. coordinate (f i u) v) u h ∙ coordinate_mod (f i u) v))
      ∙ sym (coordinate_sum n (λ i. gather k (λ u. coordinate (f i u) v)) u))

  pub gather_plus : (v : ℕ) (f g : ℕ → Element k)
      → gather k (λ u. coordinate (plus (f u) (g u)) v) ≡ plus (gather k (λ u. coordinate (f u) v)) (gather k (λ u. coordinate (g u) v))
  gather_plus v f g =
      gather_coordinates _ _ (λ u h.
      coordinate_mod (plus (f u) (g u)) v ∙ coordinate_plus (f u) (g u) v
      ∙ ap₂ bit_xor (sym (coordinate_gather k (λ u. coordinate (f u) v) u h ∙ coordinate_mod (f u) v))
      (sym (coordinate_gather k (λ u. coordinate (g u) v) u h ∙ coordinate_mod (g u) v))
      ∙ sym (coordinate_plus (gather k (λ u. coordinate (f u) v)) (gather k (λ u. coordinate (g u) v)) u))

  -- of one element y at each set coordinate of x, that is x where coordinate v of y is set
  pub gather_at_bit : (x y : Element k) (v : ℕ) → gather k (λ u. coordinate (at_bit (coordinate x u) y) v) ≡ at_bit (coordinate y v) x
  gather_at_bit x y v =
      gather_coordinates _ _ (λ u h.
      coordinate_mod (at_bit (coordinate x u) y) v
      ∙ bits_alike (coordinate x u) (coordinate y v) x y u v (coordinate_binary x u) (coordinate_binary y v) refl refl)
