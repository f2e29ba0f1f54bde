-- Numbers by their base-256 digits, and digits by their bits.
use Rattle.std.proofs.Common.{◌≡◌, ℕ, zero, suc, ◌+◌, ◌-◌, ◌*◌, ◌/◌, ◌%◌, ◌^◌, ◌<◌, ◌≤◌, List, [], ◌∷◌, length, get_or, sym, refl, ap, ◌∙◌, lt_of_lt_of_le, le_of_suc-le-suc, not-suc-le-zero, arith, pow_mono}
use native.Mathlib.Nat.{div-eq_of_lt, zero-div}
use lib.Pow.{field, mod-mod-pow}
use Rattle.std.proofs.lemmas.Nat.{mod-pow-add, shr-shr}
use Rattle.level.specs.Element.{cut}
use Rattle.level.specs.Bytes.{digits, le_number, sixteen, from_sixteen, Octets, BytesAreCoordinates}

pub length_digits : (k n : ℕ) → length (digits k n) ≡ k
unfolding digits
length_digits zero n = refl
length_digits (suc k) n = ap suc (length_digits k (n / 256))

-- digit j is the number shifted down by j bytes
pub digit_at : (k n j : ℕ) → j < k → get_or (digits k n) j 0 ≡ n / 2 ^ (8 * j) % 256
unfolding digits
digit_at zero n j h = absurd (not-suc-le-zero h)
digit_at (suc k) n zero h = let e : n / 1 ≡ n = omega arith in ap (λ m. m % 256) (sym e)
digit_at (suc k) n (suc j) h =
    let e : 8 + 8 * j ≡ 8 * suc j = omega arith in
    digit_at k (n / 256) j (le_of_suc-le-suc h) ∙ ap (λ m. m % 256) (shr-shr n 8 (8 * j) ∙ ap (λ m. n / 2 ^ m) e)

pub le_digits : (k n : ℕ) → le_number (digits k n) ≡ n % 2 ^ (8 * k)
unfolding digits le_number
le_digits zero n = omega arith
le_digits (suc k) n =
    let p : 8 * suc k ≡ 8 * k + 8 = omega arith in
    omega (arith, le_digits k (n / 256), mod-pow-add n (8 * k) 8, ap (λ m. n % 2 ^ m) p)

pub digits_mod : (k n m : ℕ) → n % 2 ^ (8 * k) ≡ m % 2 ^ (8 * k) → digits k n ≡ digits k m
unfolding digits
digits_mod zero n m e = refl
digits_mod (suc k) n m e =
    let p : 8 * suc k ≡ 8 * k + 8 = omega arith in
    let n' = mod-pow-add n (8 * k) 8 in
    let m' = mod-pow-add m (8 * k) 8 in
    let e' = sym (ap (λ i. n % 2 ^ i) p) ∙ e ∙ ap (λ i. m % 2 ^ i) p in
    let low : n % 256 ≡ m % 256 = omega arith in
    let high : n / 256 % 2 ^ (8 * k) ≡ m / 256 % 2 ^ (8 * k) = omega arith in
    ap (λ x. x ∷ digits k (n / 256)) low ∙ ap (λ l. m % 256 ∷ l) (digits_mod k (n / 256) (m / 256) high)

-- a bit below the width of a remainder is a bit of the number
pub low_bit : (n w u : ℕ) → u < w → n % 2 ^ w / 2 ^ u % 2 ≡ n / 2 ^ u % 2
low_bit n w u h =
    let j = w - u - 1 in
    let e : w ≡ (j + 1) + u = omega arith in
    ap (λ v. n % 2 ^ v / 2 ^ u % 2) e ∙ ap (λ v. v % 2) (field n (j + 1) u) ∙ mod-mod-pow (n / 2 ^ u) j 1

-- a bit of a byte of a number is a bit of the number
pub bit_of_byte : (n s b : ℕ) → b < 8 → n / 2 ^ s % 256 / 2 ^ b % 2 ≡ n / 2 ^ (s + b) % 2
bit_of_byte n s b h = low_bit (n / 2 ^ s) 8 b h ∙ ap (λ v. v % 2) (shr-shr n s b)

-- byte j of the number that bytes write
pub le_at : (bs : List ℕ) (j : ℕ) → Octets bs → le_number bs / 2 ^ (8 * j) % 256 ≡ get_or bs j 0
unfolding le_number
le_at [] j o = let e : 0 / 2 ^ (8 * j) ≡ 0 = zero-div _ in ap (λ n. n % 256) e
le_at (x ∷ bs) zero o = omega (arith, o 0)
le_at (x ∷ bs) (suc j) o =
    let e : 8 * suc j ≡ 8 + 8 * j = omega arith in
    let q : (x + 256 * le_number bs) / 256 ≡ le_number bs = omega (arith, o 0) in
    ap (λ n. (x + 256 * le_number bs) / 2 ^ n % 256) e ∙ ap (λ n. n % 256) (sym (shr-shr (x + 256 * le_number bs) 8 (8 * j)))
    ∙ ap (λ n. n / 2 ^ (8 * j) % 256) q ∙ le_at bs j (λ i. o (suc i))

pub digits_octets : (k n : ℕ) → Octets (digits k n)
unfolding digits
digits_octets zero n j = omega arith
digits_octets (suc k) n zero = omega arith
digits_octets (suc k) n (suc j) = digits_octets k (n / 256) j

pub bytes_are_coordinates : BytesAreCoordinates
unfolding sixteen from_sixteen cut
bytes_are_coordinates = record {
  shown_length = λ x. length_digits 16 x.number;
  shown = λ x j b h l. ap (λ n. n / 2 ^ b % 2) (digit_at 16 x.number j h) ∙ bit_of_byte x.number (8 * j) b l;
  shown_octets = λ x. digits_octets 16 x.number;
  made = λ k bs j b o l h.
      low_bit (le_number bs) (2 ^ k) (8 * j + b) h ∙ sym (bit_of_byte (le_number bs) (8 * j) b l) ∙ ap (λ n. n / 2 ^ b % 2) (le_at bs j o);
  past_width = λ {k} x u h. let p : 2 ^ k ≤ u = omega arith in let m : 2 ^ (2 ^ k) ≤ 2 ^ u = pow_mono p in ap (λ n. n % 2) (div-eq_of_lt (lt_of_lt_of_le x.fits m));
}
