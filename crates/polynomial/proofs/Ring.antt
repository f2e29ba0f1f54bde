-- The polynomials modulo the modulus show the laws of a level: the sides of a law are linear in each element, so it holds where it
-- holds of the powers of X below 8.
use mathlib.Core.Path.{◌≡◌}
use Prim.Native.Nat.{ℕ, ◌^◌, ◌<◌}
use Rattle.level.specs.Element.{cut, plus}
use Rattle.level.specs.Laws.{Laws}
use Rattle.level.proofs.Elements.{same}
use Rattle.polynomial.specs.Polynomial.{product, rows, divided, reduced, polynomial}
use Rattle.polynomial.proofs.Tests.{equal_below, equal_pairs, equal_triples}
use Rattle.polynomial.proofs.Linear.{agree, linear_after, linear_same}
use Rattle.polynomial.proofs.Products.{multiplied, multiplied_left, multiplied_right}

comm_powers : (i : ℕ) → i < 8 → (j : ℕ) → j < 8 → multiplied (2 ^ i) (2 ^ j) ≡ multiplied (2 ^ j) (2 ^ i)
unfolding multiplied reduced divided product rows
comm_powers = equal_pairs 8 _ _ tt

assoc_powers : (i : ℕ) → i < 8 → (j : ℕ) → j < 8 → (k : ℕ) → k < 8 → multiplied (multiplied (2 ^ i) (2 ^ j)) (2 ^ k) ≡ multiplied (2 ^ i) (multiplied (2 ^ j) (2 ^ k))
unfolding multiplied reduced divided product rows
assoc_powers = equal_triples 8 _ _ tt

unit_powers : (i : ℕ) → i < 8 → multiplied (2 ^ i) 1 ≡ 2 ^ i
unfolding multiplied reduced divided product rows
unit_powers = equal_below 8 _ _ tt

comm : (a b : ℕ) → a < 2 ^ 8 → b < 2 ^ 8 → multiplied a b ≡ multiplied b a
comm a b ha hb =
    agree 8 (multiplied_left b) (multiplied_right b) (λ i hi.
    agree 8 (multiplied_right (2 ^ i)) (multiplied_left (2 ^ i)) (comm_powers i hi) b hb) a ha

assoc : (a b c : ℕ) → a < 2 ^ 8 → b < 2 ^ 8 → c < 2 ^ 8 → multiplied (multiplied a b) c ≡ multiplied a (multiplied b c)
assoc a b c ha hb hc =
    agree 8 (linear_after (multiplied_left c) (multiplied_left b)) (multiplied_left (multiplied b c)) (λ i hi.
    agree 8 (linear_after (multiplied_left c) (multiplied_right (2 ^ i))) (linear_after (multiplied_right (2 ^ i)) (multiplied_left c)) (λ j hj.
    agree 8 (multiplied_right (multiplied (2 ^ i) (2 ^ j))) (linear_after (multiplied_right (2 ^ i)) (multiplied_right (2 ^ j))) (assoc_powers i hi j hj) c hc) b hb) a ha

unit : (a : ℕ) → a < 2 ^ 8 → multiplied a 1 ≡ a
unit = agree 8 (multiplied_left 1) linear_same unit_powers

pub polynomial_laws : Laws polynomial
unfolding polynomial cut plus multiplied
polynomial_laws = record {
  times_assoc = λ x y z. same _ _ (assoc x.number y.number z.number x.fits y.fits z.fits);
  times_comm = λ x y. same _ _ (comm x.number y.number x.fits y.fits);
  times_plus = λ x y z. same _ _ ((multiplied_right x.number).at_sum y.number z.number);
  times_unit = λ x. same _ _ (unit x.number x.fits);
}
