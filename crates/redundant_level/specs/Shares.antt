-- The ring of eight coordinates, and its sums and products by shares.
use Rattle.std.specs.Prelude.{◌≡◌, ℕ}
use Rattle.std.proofs.Common.{sym, ap, ap₂, ◌∙◌, mod-eq_of_lt}
use Rattle.std.specs.Int.Bits.{bit_and, bit_xor, xor_assoc, xor_self, xor_zero_r}
use Rattle.std.proofs.lemmas.Nat.{and_comm, and_mod, and_mask}
use Rattle.level.specs.Element.{cut, plus}
use Rattle.level.specs.Laws.{Laws}
use Rattle.level.proofs.Ands.{and_assoc, and_xor, xor_and}
use Rattle.level.proofs.Elements.{same, cut_xor, plus_assoc, plus_left_comm}
use Rattle.redundant_level.specs.Coordinatewise.{coordinatewise}

pub coordinatewise_laws : Laws coordinatewise
unfolding plus cut
coordinatewise_laws = record {
  times_assoc = λ x y z. same _ _ (and_assoc x.number y.number z.number);
  times_comm = λ x y. same _ _ (and_comm x.number y.number);
  times_plus = λ x y z. same _ _ (and_xor x.number y.number z.number);
  times_unit = λ x. same _ _ (and_mask x.number 8 ∙ mod-eq_of_lt x.fits);
}

-- a number under a mask, unmasked
pub unmasked : (n m : ℕ) → bit_xor (bit_xor n m) m ≡ n
unmasked n m = xor_assoc n m m ∙ ap (bit_xor n) (xor_self m) ∙ xor_zero_r n

-- the sum, share by share
pub sum_shares : (a b c e : ℕ) → cut 3 (bit_xor (bit_xor a c) (bit_xor b e)) ≡ plus (cut 3 (bit_xor a b)) (cut 3 (bit_xor c e))
sum_shares a b c e = simp (cut_xor, plus_assoc, plus_left_comm)

-- the product, by the four products of shares
pub product_shares : (a b c e : ℕ)
    → cut 3 (bit_xor (bit_xor (bit_and a c) (bit_and a e)) (bit_xor (bit_and b c) (bit_and b e))) ≡ coordinatewise.times (cut 3 (bit_xor a b)) (cut 3 (bit_xor c e))
unfolding cut
product_shares a b c e =
    ap (cut 3) (ap₂ bit_xor (sym (and_xor a c e)) (sym (and_xor b c e)) ∙ sym (xor_and a b (bit_xor c e)))
    ∙ same _ _ (and_mod (bit_xor a b) (bit_xor c e) 8)
