-- Sixteen bytes as a number of 128 bits and back, as `u128::from_le_bytes` and `to_le_bytes` have them, and elements that fit one byte.
use Rattle.std.proofs.Common.{◌≡◌, ℕ, zero, suc, ◌+◌, ◌-◌, ◌*◌, ◌/◌, ◌%◌, ◌^◌, ◌<◌, ◌≤◌, List, [], ◌∷◌, length, get_or, drop, replicate, sym, refl, ap, ◌∙◌, mod-eq_of_lt, arith, pow_mono}
use native.Mathlib.Nat.{div-div-eq-div-mul, mod-mod}
use lib.Pow.{mod-mod-pow}
use Rattle.std.proofs.lemmas.List.{drop_all}
use Rattle.level.specs.Element.{Element, width, cut}
use Rattle.level.specs.Bytes.{digits, le_number, sixteen, from_sixteen}
use Rattle.level.proofs.Elements.{same, cut_number}
use Rattle.level.proofs.Digits.{le_digits}

-- the sixteen bytes of a number
pub to_le_bytes : (n : ℕ) (bs : List ℕ) → bs ≡ (n % 256) ∷ (n / 256 % 256) ∷ (n / 65536 % 256) ∷ (n / 16777216 % 256) ∷ (n / 4294967296 % 256) ∷ (n / 1099511627776 % 256) ∷ (n / 281474976710656 % 256) ∷ (n / 72057594037927936 % 256) ∷ (n / 18446744073709551616 % 256) ∷ (n / 4722366482869645213696 % 256) ∷ (n / 1208925819614629174706176 % 256) ∷ (n / 309485009821345068724781056 % 256) ∷ (n / 79228162514264337593543950336 % 256) ∷ (n / 20282409603651670423947251286016 % 256) ∷ (n / 5192296858534827628530496329220096 % 256) ∷ (n / 1329227995784915872903807060280344576 % 256) ∷ [] → bs ≡ digits 16 n
unfolding digits
to_le_bytes n bs e = e ∙ simp div-div-eq-div-mul

-- what stands at a place, and the number of the bytes past it
le_drop : (bs : List ℕ) (i : ℕ) → le_number (drop i bs) ≡ get_or bs i 0 + 256 * le_number (drop (suc i) bs)
unfolding le_number
le_drop [] zero = refl
le_drop (x ∷ bs) zero = refl
le_drop [] (suc i) = refl
le_drop (x ∷ bs) (suc i) = le_drop bs i

-- the number of sixteen bytes
pub from_le_bytes : (bs : List ℕ) (n : ℕ) → length bs ≡ 16 → n ≡ get_or bs 0 0 + get_or bs 1 0 * 256 + get_or bs 2 0 * 65536 + get_or bs 3 0 * 16777216 + get_or bs 4 0 * 4294967296 + get_or bs 5 0 * 1099511627776 + get_or bs 6 0 * 281474976710656 + get_or bs 7 0 * 72057594037927936 + get_or bs 8 0 * 18446744073709551616 + get_or bs 9 0 * 4722366482869645213696 + get_or bs 10 0 * 1208925819614629174706176 + get_or bs 11 0 * 309485009821345068724781056 + get_or bs 12 0 * 79228162514264337593543950336 + get_or bs 13 0 * 20282409603651670423947251286016 + get_or bs 14 0 * 5192296858534827628530496329220096 + get_or bs 15 0 * 1329227995784915872903807060280344576 → n ≡ le_number bs
unfolding le_number
from_le_bytes bs n h e =
    let d : drop 16 bs ≡ [] = drop_all 16 bs (omega arith) in
    let z : le_number (drop 16 bs) ≡ 0 = ap le_number d in
    omega (arith, le_drop bs 0, le_drop bs 1, le_drop bs 2, le_drop bs 3, le_drop bs 4, le_drop bs 5, le_drop bs 6, le_drop bs 7, le_drop bs 8, le_drop bs 9, le_drop bs 10, le_drop bs 11, le_drop bs 12, le_drop bs 13, le_drop bs 14, le_drop bs 15)

-- a number below 256 fills one byte
digits_zero : (k : ℕ) → digits k 0 ≡ replicate k 0
unfolding digits
digits_zero zero = refl
digits_zero (suc k) = ap (λ bs. 0 ∷ bs) (digits_zero k)

digits_byte : (k n : ℕ) → n < 256 → digits (suc k) n ≡ n ∷ replicate k 0
unfolding digits
digits_byte k n h =
    let low : n % 256 ≡ n = omega arith in
    let high : n / 256 ≡ 0 = omega arith in
    ap (λ b. b ∷ digits k (n / 256)) low ∙ ap (λ m. n ∷ digits k m) high ∙ ap (λ bs. n ∷ bs) (digits_zero k)

-- the sixteen bytes of an element whose coordinates fill at most one byte
pub sixteen_byte : {k : ℕ} (x : Element k) → x.number < 256 → sixteen x ≡ x.number ∷ replicate 15 0
unfolding sixteen
sixteen_byte x h = digits_byte 15 x.number h

-- numbers that agree in their low v bits agree in fewer
pub fewer_bits : (n m v w : ℕ) → w ≤ v → n % 2 ^ v ≡ m % 2 ^ v → n % 2 ^ w ≡ m % 2 ^ w
fewer_bits n m v w h e =
    let p : v ≡ (v - w) + w = omega arith in
    sym (mod-mod-pow n (v - w) w) ∙ ap (λ i. i % 2 ^ w) (rw p at e) ∙ mod-mod-pow m (v - w) w

-- the first byte alone makes an element of at most eight coordinates
pub from_first_byte : (k : ℕ) (bs : List ℕ) → k ≤ 3 → from_sixteen k bs ≡ cut k (get_or bs 0 0)
unfolding from_sixteen cut
from_first_byte k bs h = same _ _ (fewer_bits (le_number bs) (get_or bs 0 0) 8 (width k) (pow_mono h) (omega (arith, le_drop bs 0)))

-- an element of at most 128 coordinates, read back from its bytes
pub le_sixteen : {k : ℕ} (x : Element k) → k ≤ 7 → le_number (sixteen x) ≡ x.number
unfolding sixteen
le_sixteen {k} x h =
    let narrow : 2 ^ width k ≤ 2 ^ 128 = pow_mono (pow_mono h) in
    le_digits 16 x.number ∙ mod-eq_of_lt (omega (arith, x.fits))

-- an element of at most 128 coordinates, made from the bytes of a number
pub from_digits : (k n : ℕ) → k ≤ 7 → from_sixteen k (digits 16 n) ≡ cut k n
unfolding from_sixteen cut
from_digits k n h =
    same _ _ (ap (λ m. m % 2 ^ width k) (le_digits 16 n) ∙ fewer_bits (n % 2 ^ 128) n 128 (width k) (pow_mono h) (mod-mod n (2 ^ 128)))

-- an element of at most 128 coordinates is what its sixteen bytes make
pub from_shown : {k : ℕ} (x : Element k) → k ≤ 7 → from_sixteen k (sixteen x) ≡ x
unfolding from_sixteen
from_shown {k} x h = ap (cut k) (le_sixteen x h) ∙ cut_number x
