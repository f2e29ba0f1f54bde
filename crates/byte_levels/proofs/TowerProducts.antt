-- The operations on bits of the tower byte are products of three doublings over the bit.
use Rattle.std.proofs.Common.{◌≡◌, ℕ, zero, suc, ◌/◌, ◌%◌, ◌^◌, ◌<◌, get_or, sym, refl, ap, ◌∙◌, ap₂, arith}
use lib.Bits.{bit_xor}
use Rattle.level.specs.Element.{cut, plus, zeros}
use Rattle.level.proofs.Elements.{same, cut_number, cut_xor}
use Rattle.doubling.specs.Doubled.{low, high, join, doubled, tower}
use Rattle.level.proofs.Ring.{plus_times}
use Rattle.doubling.specs.Rings.{tower_laws}
use Rattle.polynomial.proofs.Tests.{equal_below}
use Rattle.byte_levels.specs.Rows.{selected}
use Rattle.byte_levels.specs.TowerSteps.{times_x0, times_x1, times_x2, low_multiples}
use Rattle.byte_levels.specs.Bytes.{TowerByte}
use Rattle.byte_levels.proofs.Coordinates.{cut_of, byte_number, one_times}
use Rattle.byte_levels.proofs.Selected.{selected_mod, selected_times}

pub tower_byte : TowerByte
unfolding tower doubled low high join cut plus zeros
tower_byte = record {
  one = refl;
  generator = refl;
  by_x0 = equal_below 256 _ _ tt;
  by_x1 = equal_below 256 _ _ tt;
  by_x2 = equal_below 256 _ _ tt;
}

pub one_is : cut 3 0x01 ≡ (tower 3).unit
one_is = cut_of 0x01 (tower 3).unit (sym tower_byte.one)

pub generator_is : cut 3 0x10 ≡ (tower 3).root
generator_is = cut_of 0x10 (tower 3).root (sym tower_byte.generator)

x0_x1 : (tower 3).times (cut 3 0x02) (cut 3 0x04) ≡ cut 3 0x08
unfolding tower doubled low high join cut plus zeros
x0_x1 = same _ _ refl

-- a byte is its low four bits, and x2 times its high four
halves : (a : ℕ) → a < 2 ^ 8 → cut 3 a ≡ plus (cut 3 (a % 2 ^ 4)) ((tower 3).times (cut 3 0x10) (cut 3 (a / 2 ^ 4)))
unfolding tower doubled low high join cut plus zeros
halves a h = same _ _ (equal_below 256 (λ a. (cut 3 a).number) (λ a. (plus (cut 3 (a % 2 ^ 4)) ((tower 3).times (cut 3 0x10) (cut 3 (a / 2 ^ 4)))).number) tt a h)

multiple_is : (b : ℕ) → b < 2 ^ 8 → (i : ℕ) → i < 4 → get_or (low_multiples b) i 0 ≡ ((tower 3).times (cut 3 (2 ^ i)) (cut 3 b)).number
multiple_is b h zero l = sym (ap (λ x. x.number) (one_times (tower_laws 3) one_is (cut 3 b)) ∙ byte_number b h)
multiple_is b h (suc zero) l = tower_byte.by_x0 b h
multiple_is b h (suc (suc zero)) l = tower_byte.by_x1 b h
multiple_is b h (suc (suc (suc zero))) l =
    let x = (tower 3).times (cut 3 0x04) (cut 3 b) in
    let e : times_x1 b ≡ x.number = tower_byte.by_x1 b h in
    ap times_x0 e ∙ tower_byte.by_x0 x.number x.fits
    ∙ ap (λ y. y.number) (ap ((tower 3).times (cut 3 0x02)) (cut_number x) ∙ sym ((tower_laws 3).times_assoc (cut 3 0x02) (cut 3 0x04) (cut 3 b)) ∙ ap (λ y. (tower 3).times y (cut 3 b)) x0_x1)
multiple_is b h (suc (suc (suc (suc i)))) l = absurd (omega arith)

-- four bits times b
low_product : (a b : ℕ) → a < 2 ^ 4 → b < 2 ^ 8 → cut 3 (selected a (low_multiples b)) ≡ (tower 3).times (cut 3 a) (cut 3 b)
low_product a b ha hb = cut_of _ _ (selected_times (tower_laws 3) b 4 (low_multiples b) (multiple_is b hb) a ha)

pub tower_product : (a b l h r : ℕ) → a < 2 ^ 8 → b < 2 ^ 8 → h < 2 ^ 8 → l ≡ selected a (low_multiples b) → h ≡ selected (a / 2 ^ 4) (low_multiples b) → r ≡ times_x2 h → cut 3 (bit_xor l r) ≡ (tower 3).times (cut 3 a) (cut 3 b)
tower_product a b l h r ha hb hh el eh er =
    let laws = tower_laws 3 in
    let low : cut 3 l ≡ (tower 3).times (cut 3 (a % 2 ^ 4)) (cut 3 b) =
    ap (cut 3) (el ∙ sym (selected_mod (low_multiples b) a)) ∙ low_product (a % 2 ^ 4) b (omega arith) hb in
    let high : cut 3 r ≡ (tower 3).times (cut 3 0x10) ((tower 3).times (cut 3 (a / 2 ^ 4)) (cut 3 b)) =
    cut_of r _ (er ∙ tower_byte.by_x2 h hh) ∙ ap ((tower 3).times (cut 3 0x10)) (ap (cut 3) eh ∙ low_product (a / 2 ^ 4) b (omega arith) hb) in
    cut_xor 3 l r ∙ ap₂ plus low (high ∙ sym (laws.times_assoc _ _ _)) ∙ sym (plus_times laws _ _ _) ∙ ap (λ x. (tower 3).times x (cut 3 b)) (sym (halves a ha))

pub generator_times : (b r : ℕ) → b < 2 ^ 8 → r ≡ times_x2 b → cut 3 r ≡ (tower 3).times (tower 3).root (cut 3 b)
generator_times b r h e = cut_of r _ (e ∙ tower_byte.by_x2 b h) ∙ ap (λ x. (tower 3).times x (cut 3 b)) generator_is
