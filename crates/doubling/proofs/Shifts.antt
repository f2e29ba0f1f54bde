-- The sixteen bytes of a joined element, and a joined element from sixteen bytes, by shifts of 128 bits.
use mathlib.Core.Path.{◌≡◌, sym, ap, ap₂, ◌∙◌}
use mathlib.Core.List.{List}
use Prim.Native.Nat.{ℕ, suc, ◌+◌, ◌*◌, ◌/◌, ◌%◌, ◌^◌, ◌<◌, ◌≤◌}
use native.Mathlib.Omega.{arith}
use native.Mathlib.Nat.{mod-eq_of_lt, div-eq_of_lt}
use lib.Bits.{bit_or, or_shifted_r}
use lib.Pow.{pow_mono, pow-lt, mod-pow-add, shl_exact}
use lib.Pow.{low as mod_low}
use Rattle.level.specs.Element.{Element, width, cut, zeros}
use Rattle.level.specs.Bytes.{digits, le_number, sixteen, from_sixteen}
use Rattle.level.proofs.Elements.{same, cut_zero}
use Rattle.level.proofs.Digits.{digits_mod}
use Rattle.level.proofs.Words.{fewer_bits, from_digits}
use Rattle.doubling.specs.Halves.{width_suc}
use Rattle.doubling.specs.Doubled.{join}

-- where the low half fills the sixteen bytes, the high half lies past them
pub sixteen_wide : {k : ℕ} (a b : Element k) → 7 ≤ k → sixteen a ≡ sixteen (join a b)
unfolding sixteen join
sixteen_wide {k} a b h =
    digits_mod 16 _ _ (fewer_bits a.number (b.number * 2 ^ width k + a.number) (width k) 128 (pow_mono h)
    (mod-eq_of_lt a.fits ∙ sym (mod_low b.number (width k) a.fits)))

-- a width below that of sixteen bytes is a shift of 128 bits
pub shift_fits : (k : ℕ) → k < 7 → width k < 128
shift_fits k h = pow-lt h

-- the high half, moved past the low half
pub joined_number : {k : ℕ} (a b : Element k) {lo hi w r : ℕ} → k < 7 → lo ≡ a.number → hi ≡ b.number → w ≡ width k
    → r ≡ bit_or lo (hi * 2 ^ w % 2 ^ 128) → r ≡ (join a b).number
unfolding join
joined_number {k} a b h lo hi w e =
    let small : k ≤ 6 = omega arith in
    let half : width k ≤ 64 = pow_mono small in
    e ∙ rw (lo, hi, w) (ap (bit_or a.number) (shl_exact (width k) (width k) 128 b.fits (omega arith)) ∙ or_shifted_r b.number (width k) a.number a.fits)

-- an element from a number, by halves
pub join_cut : (k n : ℕ) → join (cut k n) (cut k (n / 2 ^ width k)) ≡ cut (suc k) n
unfolding join cut
join_cut k n = same _ _ (sym (ap (λ w. n % 2 ^ w) (width_suc k) ∙ mod-pow-add n (width k) (width k)))

-- where the low half takes all sixteen bytes, the high half is zero
pub from_wide : {k : ℕ} (bs : List ℕ) {x y : Element k} → 7 ≤ k → le_number bs < 2 ^ 128 → x ≡ from_sixteen k bs → y ≡ zeros k
    → join x y ≡ from_sixteen (suc k) bs
unfolding from_sixteen
from_wide {k} bs h l x y =
    let wide : 2 ^ 128 ≤ 2 ^ width k = pow_mono (pow_mono h) in
    let none : le_number bs / 2 ^ width k ≡ 0 = div-eq_of_lt (omega arith) in
    let above : cut k (le_number bs / 2 ^ width k) ≡ zeros k = ap (cut k) none ∙ cut_zero k in
    ap₂ join x (y ∙ sym above) ∙ join_cut k (le_number bs)

-- otherwise the high half is in the bytes of the number, moved down by the width
pub from_narrow : {k : ℕ} (bs ds : List ℕ) {n w r : ℕ} {x y : Element k} → k < 7 → n ≡ le_number bs → w ≡ width k → r ≡ n / 2 ^ w
    → ds ≡ digits 16 r → x ≡ from_sixteen k bs → y ≡ from_sixteen k ds → join x y ≡ from_sixteen (suc k) bs
unfolding from_sixteen
from_narrow {k} bs ds h n w r d x y =
    let above : from_sixteen k ds ≡ cut k (le_number bs / 2 ^ width k) = ap (from_sixteen k) d ∙ from_digits k _ (omega arith) ∙ ap (cut k) (r ∙ rw (n, w)) in
    ap₂ join x (y ∙ above) ∙ join_cut k (le_number bs)
