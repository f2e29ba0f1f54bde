-- The basis elements: their coordinates, and elements and tensors as sums over them.
use Rattle.std.proofs.Common.{◌≡◌, ℕ, zero, suc, ◌+◌, ◌-◌, ◌/◌, ◌%◌, ◌^◌, ◌<◌, eqb, sym, ap, ◌∙◌, ⊎_elim, mod-eq_of_lt, one-mul, pow-suc, arith, pow_pos, pow-add}
use native.Mathlib.Nat.{div-eq_of_lt}
use lib.Pow.{pow-lt, shl-shr}
use Rattle.std.proofs.lemmas.Bool.{eq-eqb, ne_eqb, cases_eq, cases_order}
use Rattle.level.specs.Element.{Element, width, coordinate}
use Rattle.level.proofs.Elements.{cut_is}
use Rattle.multilinear.specs.Sums.{sum, at_bit, where_set}
use Rattle.multilinear.proofs.Sums.{sum_same}
use Rattle.multilinear.proofs.Coordinates.{coordinate_binary, coordinate_zeros}
use Rattle.multilinear.proofs.Windows.{sum_single}
use Rattle.tensor_algebra.specs.Tensor.{Tensor, exterior, subset_sum}
use Rattle.tensor_algebra.specs.Subsets.{basis}
use Rattle.tensor_algebra.proofs.Kept.{where_in, where_out}
use Rattle.tensor_algebra.proofs.Columns.{column_same, column_exterior, column_sum}

-- the binary digits of a power of two
pub power_digit_same : (u : ℕ) → 2 ^ u / 2 ^ u % 2 ≡ 1
power_digit_same u = ap (λ n. n / 2 ^ u % 2) (sym (one-mul (2 ^ u))) ∙ ap (λ n. n % 2) (shl-shr 1 u)

pub power_digit_other : (u v : ℕ) → (v ≡ u → ⊥) → 2 ^ u / 2 ^ v % 2 ≡ 0
power_digit_other u v ne =
    ⊎_elim (λ e. absurd (ne e))
    (⊎_elim below (λ h. ap (λ n. n % 2) (div-eq_of_lt (pow-lt h)))) (cases_order v u)
  where
    below : v < u → 2 ^ u / 2 ^ v % 2 ≡ 0
    below h =
        let m = u - v - 1 in
        let e : u ≡ suc m + v = omega arith in
        let p : 2 ^ suc m % 2 ≡ 0 = omega (arith, pow-suc 2 m) in
        ap (λ n. 2 ^ n / 2 ^ v % 2) e ∙ ap (λ n. n / 2 ^ v % 2) (pow-add 2 (suc m) v) ∙ ap (λ n. n % 2) (shl-shr (2 ^ suc m) v) ∙ p

pub basis_is : (k u : ℕ) → u < width k → (basis k u).number ≡ 2 ^ u
unfolding basis
basis_is k u h = cut_is k (2 ^ u) ∙ mod-eq_of_lt (pow-lt h)

pub eqb_comm : (m n : ℕ) → eqb m n ≡ eqb n m
eqb_comm m n =
    ⊎_elim (λ e. eq-eqb m n e ∙ sym (eq-eqb n m (sym e))) (λ ne. ne_eqb m n ne ∙ sym (ne_eqb n m (λ e. ne (sym e)))) (cases_eq m n)

module _ {k : ℕ} where
  pub at_power : (u v : ℕ) (x : Element k) → at_bit (2 ^ u / 2 ^ v % 2) x ≡ where_set (eqb v u) x
  unfolding at_bit
  at_power u v x =
      ⊎_elim
      (λ e. ap (λ w. at_bit (2 ^ u / 2 ^ w % 2) x) e ∙ ap (λ n. at_bit n x) (power_digit_same u) ∙ sym (where_in (eqb v u) x (eq-eqb v u e)))
      (λ ne. ap (λ n. at_bit n x) (power_digit_other u v ne) ∙ sym (where_out (eqb v u) x (ne_eqb v u ne)))
      (cases_eq v u)

  -- what stands at the set coordinate of a basis element, seen from the coordinate and from the basis element
  pub at_basis : (u v : ℕ) (x : Element k) → u < width k → at_bit (coordinate (basis k u) v) x ≡ where_set (eqb v u) x
  at_basis u v x h = ap (λ n. at_bit (n / 2 ^ v % 2) x) (basis_is k u h) ∙ at_power u v x

  pub basis_at : (u v : ℕ) (x : Element k) → u < width k → at_bit (coordinate (basis k u) v) x ≡ where_set (eqb u v) x
  basis_at u v x h = at_basis u v x h ∙ ap (λ c. where_set c x) (eqb_comm v u)

  -- a tensor from its rows: row i stands at coordinate i alone
  pub rows_by_basis : (t : Tensor k) (u : ℕ) → u < width k → t u ≡ sum (width k) (λ i. exterior (basis k i) (t i) u)
  unfolding exterior
  rows_by_basis t u h = sym (sum_same (width k) _ _ (λ i l. basis_at i u (t i) l) ∙ sum_single (width k) u h t)

  -- an element from its coordinates: the basis elements of those that are set
  pub by_basis : (x : Element k) → subset_sum (basis k) x ≡ x
  unfolding subset_sum exterior at_bit
  by_basis x =
      sym (sym (ap (λ n. at_bit n x) one_set) ∙ sym (column_exterior x (basis k 0) 0) ∙ column_same _ _ (rows_by_basis (exterior x (basis k 0))) 0
      ∙ column_sum (width k) (λ i. exterior (basis k i) (exterior x (basis k 0) i)) 0
      ∙ sum_same (width k) _ _ (λ i _. column_exterior (basis k i) (exterior x (basis k 0) i) 0
      ∙ ap (λ n. at_bit n (basis k i)) (bit_kept (coordinate x i) (coordinate_binary x i))))
    where
      one_set : coordinate (basis k 0) 0 ≡ 1
      one_set = ap (λ n. n / 2 ^ 0 % 2) (basis_is k 0 (pow_pos k))

      bit_kept : (c : ℕ) → c < 2 → coordinate (at_bit c (basis k 0)) 0 ≡ c
      bit_kept zero _ = coordinate_zeros k 0
      bit_kept (suc zero) _ = one_set
      bit_kept (suc (suc c)) h = absurd (omega arith)
