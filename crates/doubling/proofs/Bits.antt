-- The bit's elements by their numbers.
use mathlib.Core.Path.{◌≡◌, refl, sym, ap, ap₂, ◌∙◌}
use mathlib.Core.Bool.{Bool, true, false, cond}
use Prim.Native.Nat.{ℕ, ◌<◌, ◌%◌}
use native.Mathlib.Omega.{arith}
use lib.Bits.{bit_and, bit_xor}
use Rattle.level.specs.Element.{cut, zeros, plus}
use Rattle.level.proofs.Elements.{same, plus_is}
use Rattle.doubling.specs.Doubled.{bit, bit_of}

pub bit_number : (b : Bool) → (bit_of b).number ≡ cond b 1 0
unfolding cut zeros
bit_number true = refl
bit_number false = refl

pub bit_byte : (b : Bool) → (bit_of b).number < 256
bit_byte true = omega (arith, bit_number true)
bit_byte false = omega (arith, bit_number false)

pub bit_plus : (a b r : Bool) → cond r 1 0 ≡ bit_xor (cond a 1 0) (cond b 1 0) → bit_of r ≡ plus (bit_of a) (bit_of b)
bit_plus a b r e = same _ _ (bit_number r ∙ e ∙ ap₂ bit_xor (sym (bit_number a)) (sym (bit_number b)) ∙ sym (plus_is (bit_of a) (bit_of b)))

pub bit_times : (a b r : Bool) → cond r 1 0 ≡ bit_and (cond a 1 0) (cond b 1 0) → bit_of r ≡ bit.times (bit_of a) (bit_of b)
bit_times a b r e = same _ _ (bit_number r ∙ e ∙ ap₂ bit_and (sym (bit_number a)) (sym (bit_number b)))

pub bit_same : (a b : Bool) → bit_of a ≡ bit_of b → a ≡ b
bit_same true true e = refl
bit_same true false e = absurd (omega (arith, bit_number true, bit_number false, ap (λ x. x.number) e))
bit_same false true e = absurd (omega (arith, bit_number true, bit_number false, ap (λ x. x.number) e))
bit_same false false e = refl

pub bit_cut : (b : Bool) (n : ℕ) → cond b 1 0 ≡ n % 2 → bit_of b ≡ cut 0 n
unfolding cut
bit_cut b n e = same _ _ (bit_number b ∙ e)
