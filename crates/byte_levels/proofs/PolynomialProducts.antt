-- The operations on bits of the polynomial byte are products of polynomials.
use Rattle.std.proofs.Common.{◌≡◌, ℕ, zero, suc, ◌^◌, ◌<◌, ◌≤◌, get_or, sym, refl, ap, ◌∙◌, arith}
use Rattle.level.specs.Element.{Element, cut}
use Rattle.level.proofs.Elements.{same, cut_number}
use Rattle.polynomial.specs.Polynomial.{polynomial, reduced, divided, product, rows}
use Rattle.polynomial.proofs.Ring.{polynomial_laws}
use Rattle.polynomial.proofs.Tests.{equal_below}
use Rattle.byte_levels.specs.Rows.{selected}
use Rattle.byte_levels.specs.PolynomialSteps.{multiples}
use Rattle.byte_levels.specs.Bytes.{PolynomialByte}
use Rattle.byte_levels.proofs.Coordinates.{cut_of, byte_number, one_times}
use Rattle.byte_levels.proofs.Selected.{selected_times}

pub polynomial_byte : PolynomialByte
unfolding polynomial reduced divided product rows cut
polynomial_byte = record { by_x = equal_below 256 _ _ tt }

pub one_is : cut 3 0x01 ≡ polynomial.unit
unfolding polynomial
one_is = refl

pub generator_is : cut 3 0x01 ≡ polynomial.root
unfolding polynomial
generator_is = refl

power_times_x : (i : ℕ) → i < 7 → polynomial.times (cut 3 (2 ^ i)) (cut 3 0x02) ≡ cut 3 (2 ^ suc i)
unfolding polynomial reduced divided product rows cut
power_times_x i h = same _ _ (equal_below 7 (λ i. (polynomial.times (cut 3 (2 ^ i)) (cut 3 0x02)).number) (λ i. (cut 3 (2 ^ suc i)).number) tt i h)

multiple_is : (n b : ℕ) → b < 2 ^ 8 → (i : ℕ) → i < n → n ≤ 8 → get_or (multiples n b) i 0 ≡ (polynomial.times (cut 3 (2 ^ i)) (cut 3 b)).number
multiple_is zero b h i l m = absurd (omega arith)
multiple_is (suc n) b h zero l m = sym (ap (λ x. x.number) (one_times polynomial_laws one_is (cut 3 b)) ∙ byte_number b h)
multiple_is (suc n) b h (suc i) l m =
    let x = polynomial.times (cut 3 0x02) (cut 3 b) in
    ap (λ c. get_or (multiples n c) i 0) (polynomial_byte.by_x b h) ∙ multiple_is n x.number x.fits i (omega arith) (omega arith)
    ∙ ap (λ y. y.number) (ap (polynomial.times (cut 3 (2 ^ i))) (cut_number x) ∙ sym (polynomial_laws.times_assoc (cut 3 (2 ^ i)) (cut 3 0x02) (cut 3 b)) ∙ ap (λ y. polynomial.times y (cut 3 b)) (power_times_x i (omega arith)))

pub polynomial_product : (a b : ℕ) → a < 2 ^ 8 → b < 2 ^ 8 → cut 3 (selected a (multiples 8 b)) ≡ polynomial.times (cut 3 a) (cut 3 b)
polynomial_product a b ha hb = cut_of _ _ (selected_times polynomial_laws b 8 (multiples 8 b) (λ i l. multiple_is 8 b hb i l (omega arith)) a ha)

pub generator_times : (x : Element 3) → x ≡ polynomial.times polynomial.root x
generator_times x = sym (ap (λ g. polynomial.times g x) (sym generator_is) ∙ one_times polynomial_laws one_is x)
