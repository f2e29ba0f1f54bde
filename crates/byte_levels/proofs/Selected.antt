-- Rows picked by the bits of a number: linear in the number, and so a product where the rows are products.
use Rattle.std.proofs.Common.{◌≡◌, ℕ, zero, suc, ◌+◌, ◌*◌, ◌/◌, ◌%◌, ◌^◌, ◌<◌, ◌≤◌, List, [], ◌∷◌, length, get_or, drop, sym, refl, ap, ◌∙◌, ap₂, one-mul, zero-mul, add-one, arith}
use lib.Pow.{mod-mod-pow, field}
use lib.Bits.{bit_xor, xor_assoc, xor_zero_r}
use Rattle.std.proofs.lemmas.List.{drop_more, drop_all}
use Rattle.level.specs.Element.{cut}
use Rattle.level.specs.Laws.{Arithmetic, Laws}
use Rattle.level.proofs.Elements.{plus_is, cut_xor}
use Rattle.level.proofs.Ring.{plus_times}
use Rattle.polynomial.proofs.Linear.{Linear, agree, at_zero, linear_sum, linear_after, linear_zero, linear_odd, linear_shr}
use Rattle.byte_levels.specs.Rows.{selected}

pub selected_linear : (rows : List ℕ) → Linear (λ a. selected a rows)
unfolding selected
selected_linear [] = linear_zero
selected_linear (row ∷ rows) = linear_sum (linear_odd row) (linear_after (selected_linear rows) (linear_shr 1))

selected_power : (rows : List ℕ) (i : ℕ) → selected (2 ^ i) rows ≡ get_or rows i 0
unfolding selected
selected_power [] zero = refl
selected_power [] (suc i) = refl
selected_power (row ∷ rows) zero = ap₂ bit_xor (one-mul row) (at_zero (selected_linear rows)) ∙ xor_zero_r row
selected_power (row ∷ rows) (suc i) =
    let even : 2 ^ suc i % 2 ≡ 0 = omega arith in
    let half : 2 ^ suc i / 2 ≡ 2 ^ i = omega arith in
    ap₂ (λ p n. bit_xor (p * row) (selected n rows)) even half ∙ ap (λ n. bit_xor n (selected (2 ^ i) rows)) (zero-mul row) ∙ selected_power rows i

-- what is left to pick: a turn of the loop, and its end
pub selected_more : (rows : List ℕ) (i bits s x goal : ℕ) → i < length rows → x ≡ bits % 2 * get_or rows i 0 → bit_xor s (selected bits (drop i rows)) ≡ goal → bit_xor (bit_xor s x) (selected (bits / 2) (drop (i + 1) rows)) ≡ goal
unfolding selected
selected_more rows i bits s x goal h e inv =
    xor_assoc s x _ ∙ ap (bit_xor s) (ap (λ n. bit_xor n (selected (bits / 2) (drop (i + 1) rows))) e ∙ sym (ap (selected bits) (drop_more rows i 0 h))) ∙ inv

pub selected_all : (rows : List ℕ) (i bits s goal : ℕ) → length rows ≤ i → bit_xor s (selected bits (drop i rows)) ≡ goal → s ≡ goal
unfolding selected
selected_all rows i bits s goal h inv = sym (ap (λ l. bit_xor s (selected bits l)) (drop_all i rows h) ∙ xor_zero_r s) ∙ inv

-- the bits past the rows pick nothing
pub selected_mod : (rows : List ℕ) (a : ℕ) → selected (a % 2 ^ length rows) rows ≡ selected a rows
unfolding selected
selected_mod [] a = refl
selected_mod (row ∷ rows) a =
    let low : a % 2 ^ suc (length rows) % 2 ≡ a % 2 = rw (← add-one (length rows)) (mod-mod-pow a (length rows) 1) in
    let high : a % 2 ^ suc (length rows) / 2 ≡ a / 2 % 2 ^ length rows = rw (← add-one (length rows)) (field a (length rows) 1) in
    ap₂ (λ p n. bit_xor (p * row) (selected n rows)) low high ∙ ap (bit_xor (a % 2 * row)) (selected_mod rows (a / 2))

module _ {A : Arithmetic 3} (laws : Laws A) (b : ℕ) where
  times_left : Linear (λ a. (A.times (cut 3 a) (cut 3 b)).number)
  times_left = record { at_sum = λ a c. ap (λ x. (A.times x (cut 3 b)).number) (cut_xor 3 a c) ∙ ap (λ x. x.number) (plus_times laws (cut 3 a) (cut 3 c) (cut 3 b)) ∙ plus_is _ _ }

  -- where row i is b times the element of bit i, the rows picked by a make a times b
  pub selected_times : (n : ℕ) (rows : List ℕ) → ((i : ℕ) → i < n → get_or rows i 0 ≡ (A.times (cut 3 (2 ^ i)) (cut 3 b)).number) → (a : ℕ) → a < 2 ^ n → selected a rows ≡ (A.times (cut 3 a) (cut 3 b)).number
  selected_times n rows e = agree n (selected_linear rows) times_left (λ i h. selected_power rows i ∙ e i h)
