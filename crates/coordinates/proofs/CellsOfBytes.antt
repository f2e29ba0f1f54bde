-- The cells of an element's bytes, one of them set, and the element that they make.
use Rattle.std.proofs.Common.{◌≡◌, ℕ, ◌+◌, ◌*◌, ◌/◌, ◌%◌, ◌^◌, ◌<◌, List, length, get_or, set, replicate, sym, refl, ap, ◌∙◌, ⊎_elim, arith}
use native.Mathlib.Nat.{zero-div}
use lib.Bits.{bit_or, or_shr, or_mod, or_zero_r}
use Rattle.std.proofs.lemmas.List.{get_or-set_same, get_or-set_other, get_or-replicate, get_or_past, length-replicate}
use Rattle.std.proofs.lemmas.Bool.{cases_eq, cases_lt}
use Rattle.level.specs.Element.{Element, width, coordinate}
use Rattle.level.specs.Bytes.{sixteen, from_sixteen, Octets}
use Rattle.level.proofs.Ands.{bit_cases}
use Rattle.level.proofs.Digits.{bytes_are_coordinates}
use Rattle.multilinear.specs.Cells.{cell, gather}
use Rattle.multilinear.proofs.Coordinates.{gather_coordinates}
use Rattle.tensor_algebra.proofs.Basis.{power_digit_same, power_digit_other}

-- coordinate u by its byte and its bit
whole : (u : ℕ) → 8 * (u / 8) + u % 8 ≡ u
whole u = omega arith

nothing_set : (n j : ℕ) → ◌≡◌ {A = ℕ} (get_or (replicate n 0) j 0) 0
nothing_set n j =
    ⊎_elim (λ h. get_or-replicate n j 0 0 h) (λ h. get_or_past (replicate n 0) j 0 (rw length-replicate h)) (cases_lt j n)

pub cell_none : (n u : ℕ) → cell (replicate n 0) u ≡ 0
unfolding cell
cell_none n u = ap (λ b. b / 2 ^ (u % 8) % 2) (nothing_set n (u / 8)) ∙ ap (λ b. b % 2) (zero-div (2 ^ (u % 8)))

pub cell_shown : {k : ℕ} (x : Element k) (u : ℕ) → u < 128 → cell (sixteen x) u ≡ coordinate x u
unfolding cell
cell_shown x u h = bytes_are_coordinates.shown x (u / 8) (u % 8) (omega arith) (omega arith) ∙ ap (coordinate x) (whole u)

coordinate_made : (k : ℕ) (bs : List ℕ) → Octets bs → (u : ℕ) → u < width k → coordinate (from_sixteen k bs) u ≡ cell bs u
unfolding cell
coordinate_made k bs o u h =
    ap (coordinate (from_sixteen k bs)) (sym (whole u)) ∙ bytes_are_coordinates.made k bs (u / 8) (u % 8) o (omega arith) (omega (arith, whole u, h))

cell_binary : (bs : List ℕ) (u : ℕ) → cell bs u % 2 ≡ cell bs u
unfolding cell
cell_binary bs u = omega arith

pub made_cells : (k : ℕ) (bs : List ℕ) → Octets bs → from_sixteen k bs ≡ gather k (cell bs)
made_cells k bs o = sym (gather_coordinates (from_sixteen k bs) (cell bs) (λ u h. cell_binary bs u ∙ sym (coordinate_made k bs o u h)))

-- a byte with one bit set
or_digit : (n b c : ℕ) → bit_or n (2 ^ b) / 2 ^ c % 2 ≡ bit_or (n / 2 ^ c % 2) (2 ^ b / 2 ^ c % 2)
or_digit n b c = ap (λ m. m % 2) (or_shr n (2 ^ b) c) ∙ or_mod (n / 2 ^ c) (2 ^ b / 2 ^ c) 1

or_same : (n b : ℕ) → bit_or n (2 ^ b) / 2 ^ b % 2 ≡ 1
or_same n b =
    or_digit n b b ∙ ap (bit_or (n / 2 ^ b % 2)) (power_digit_same b) ∙ bit_cases (λ m. bit_or m 1 ≡ 1) refl refl (n / 2 ^ b % 2) (omega arith)

or_other : (n b c : ℕ) → (c ≡ b → ⊥) → bit_or n (2 ^ b) / 2 ^ c % 2 ≡ n / 2 ^ c % 2
or_other n b c ne = or_digit n b c ∙ ap (bit_or (n / 2 ^ c % 2)) (power_digit_other b c ne) ∙ or_zero_r (n / 2 ^ c % 2)

-- bytes with one cell set
module _ (bs : List ℕ) (i b : ℕ) (h : i / 8 < length bs) (e : b ≡ bit_or (get_or bs (i / 8) 0) (2 ^ (i % 8))) where
  pub cell_set : cell (set bs (i / 8) b) i ≡ 1
  unfolding cell
  cell_set = ap (λ n. n / 2 ^ (i % 8) % 2) (get_or-set_same bs (i / 8) b 0 h ∙ e) ∙ or_same (get_or bs (i / 8) 0) (i % 8)

  pub cell_kept : (u : ℕ) → (u ≡ i → ⊥) → cell (set bs (i / 8) b) u ≡ cell bs u
  unfolding cell
  cell_kept u ne = ⊎_elim within (λ n. ap (λ m. m / 2 ^ (u % 8) % 2) (get_or-set_other bs (i / 8) (u / 8) b 0 n)) (cases_eq (u / 8) (i / 8))
    where
      within : u / 8 ≡ i / 8 → cell (set bs (i / 8) b) u ≡ cell bs u
      within q =
          let other : u % 8 ≡ i % 8 → ⊥ = λ r. ne (omega arith) in
          ap (λ j. get_or (set bs (i / 8) b) j 0 / 2 ^ (u % 8) % 2) q ∙ ap (λ n. n / 2 ^ (u % 8) % 2) (get_or-set_same bs (i / 8) b 0 h ∙ e)
          ∙ or_other (get_or bs (i / 8) 0) (i % 8) (u % 8) other ∙ ap (λ j. get_or bs j 0 / 2 ^ (u % 8) % 2) (sym q)
