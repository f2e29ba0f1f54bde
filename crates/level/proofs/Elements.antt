-- Elements by their numbers, and the sum as a group in which each element is its own inverse.
use Rattle.std.proofs.Common.{◌≡◌, ℕ, ◌%◌, ◌^◌, ◌<◌, sym, refl, ap, ◌∙◌, subst, mod-eq_of_lt}
use native.Mathlib.Bridge.{le_prop}
use native.Mathlib.Nat.{zero-mod}
use lib.Bits.{bit_xor, xor_assoc, xor_comm, xor_zero_r, xor_zero_l, xor_self, xor_mod}
use Rattle.level.specs.Element.{Element, width, cut, plus, zeros}

-- an element is its number
pub same : {k : ℕ} (x y : Element k) → x.number ≡ y.number → x ≡ y
same {k} x y e =
    subst (λ (n : ℕ). (q : n < 2 ^ width k) → ◌≡◌ {A = Element k} x (record { number = n; fits = q })) e
    (λ q. ap (λ p. record { number = x.number; fits = p }) (le_prop x.fits q)) y.fits

pub cut_is : (k n : ℕ) → (cut k n).number ≡ n % 2 ^ width k
unfolding cut
cut_is k n = refl

pub zeros_is : (k : ℕ) → (zeros k).number ≡ 0
unfolding zeros
zeros_is k = refl

pub plus_is : {k : ℕ} (x y : Element k) → (plus x y).number ≡ bit_xor x.number y.number
unfolding plus
plus_is x y = refl

pub cut_number : {k : ℕ} (x : Element k) → cut k x.number ≡ x
unfolding cut
cut_number {k} x = same _ _ (mod-eq_of_lt x.fits)

pub cut_zero : (k : ℕ) → cut k 0 ≡ zeros k
unfolding cut zeros
cut_zero k = same _ _ (zero-mod (2 ^ width k))

-- a number that has no bits past the width is that of its element
pub cut_small : (k n : ℕ) → n < 2 ^ width k → (cut k n).number ≡ n
cut_small k n h = cut_is k n ∙ mod-eq_of_lt h

pub cut_same : (k n m : ℕ) → n < 2 ^ width k → m < 2 ^ width k → cut k n ≡ cut k m → n ≡ m
cut_same k n m hn hm e = sym (cut_small k n hn) ∙ ap (λ x. x.number) e ∙ cut_small k m hm

pub cut_xor : (k n m : ℕ) → cut k (bit_xor n m) ≡ plus (cut k n) (cut k m)
unfolding cut plus
cut_xor k n m = same _ _ (xor_mod n m (width k))

pub plus_assoc : {k : ℕ} (x y z : Element k) → plus (plus x y) z ≡ plus x (plus y z)
unfolding plus
plus_assoc x y z = same _ _ (xor_assoc x.number y.number z.number)

pub plus_comm : {k : ℕ} (x y : Element k) → plus x y ≡ plus y x
unfolding plus
plus_comm x y = same _ _ (xor_comm x.number y.number)

pub plus_zeros : {k : ℕ} (x : Element k) → plus x (zeros k) ≡ x
unfolding plus zeros
plus_zeros x = same _ _ (xor_zero_r x.number)

pub zeros_plus : {k : ℕ} (x : Element k) → plus (zeros k) x ≡ x
unfolding plus zeros
zeros_plus x = same _ _ (xor_zero_l x.number)

pub plus_self : {k : ℕ} (x : Element k) → plus x x ≡ zeros k
unfolding plus zeros
plus_self x = same _ _ (xor_self x.number)

pub plus_left_comm : {k : ℕ} (x y z : Element k) → plus x (plus y z) ≡ plus y (plus x z)
plus_left_comm x y z = sym (plus_assoc x y z) ∙ ap (λ w. plus w z) (plus_comm x y) ∙ plus_assoc y x z

pub plus_cancel : {k : ℕ} (x y : Element k) → plus x (plus x y) ≡ y
plus_cancel x y = sym (plus_assoc x x y) ∙ ap (λ z. plus z y) (plus_self x) ∙ zeros_plus y
