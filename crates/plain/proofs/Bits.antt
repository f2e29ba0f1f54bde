-- What stands at a bit, and cells by their place in a column.
use Rattle.std.proofs.Common.{◌≡◌, ℕ, zero, suc, ◌+◌, ◌-◌, ◌%◌, ◌^◌, ◌<◌, ◌≤◌, true, false, sym, refl, ap, ◌∙◌, ⊎_elim, Some, None, arith}
use lib.Pow.{ones_split, ones_lt}
use Rattle.std.specs.Option.{unwrap_or}
use Rattle.std.proofs.lemmas.Nat.{mod_low}
use Rattle.std.proofs.lemmas.Bool.{eq-eqb, both_ways, cond-true, cond-false, cases_eq}
use Rattle.level.specs.Element.{Element, zeros}
use Rattle.level.specs.Laws.{Arithmetic}
use Rattle.multilinear.specs.Sums.{at_bit}
use Rattle.multilinear.specs.Cells.{standing, successor}
use Rattle.multilinear.specs.Columns.{ends}
use Rattle.ring_switch.specs.Opening.{View, named}

module _ {k : ℕ} where
  pub at_bit_clear : (b : ℕ) (x y : Element k) → b ≡ 0 → y ≡ zeros k → y ≡ at_bit b x
  unfolding at_bit
  at_bit_clear b x y e z = z ∙ ap (λ n. at_bit n x) (sym e)

  pub at_bit_set : (b : ℕ) (x : Element k) → (b ≡ 0 → ⊥) → x ≡ at_bit b x
  unfolding at_bit
  at_bit_set zero x ne = absurd (ne refl)
  at_bit_set (suc b) x ne = refl

  module _ (A : Arithmetic k) where
    pub standing_clear : (b : ℕ) (y : Element k) → b ≡ 0 → y ≡ zeros k → y ≡ standing A b
    unfolding standing
    standing_clear b y e z = z ∙ ap (standing A) (sym e)

    pub standing_set : (b : ℕ) (y : Element k) → (b ≡ 0 → ⊥) → y ≡ A.unit → y ≡ standing A b
    unfolding standing
    standing_set zero y ne e = absurd (ne refl)
    standing_set (suc b) y ne e = e

-- the largest number of w bits ends every column
largest_ends : (q w : ℕ) → q ≤ w → ends q (2 ^ w - 1) ≡ true
largest_ends q w h =
    let j = w - q in
    let e : w ≡ j + q = omega arith in
    let m = ap (λ i. (2 ^ i - 1) % 2 ^ q) e ∙ ap (λ n. n % 2 ^ q) (ones_split j q) ∙ mod_low (2 ^ j - 1) q (2 ^ q - 1) (ones_lt q) in
    eq-eqb _ _ m

pub next_fits : (q c : ℕ) → q < 64 → c < 2 ^ 64 → false ≡ ends q c → c + 1 < 2 ^ 64
next_fits q c h fits e =
    ⊎_elim (λ l. absurd (both_ways (ends q c) (sym e) (ap (ends q) l ∙ largest_ends q 64 (omega arith)))) (λ ne. omega (arith, ne)) (cases_eq c (2 ^ 64 - 1))

pub successor_stays : (q c : ℕ) → true ≡ ends q c → c ≡ successor q c
unfolding successor
successor_stays q c e = sym (cond-true (ends q c) c (c + 1) (sym e))

pub successor_steps : (q c : ℕ) → false ≡ ends q c → c + 1 ≡ successor q c
unfolding successor
successor_steps q c e = sym (cond-false (ends q c) c (c + 1) (sym e))

-- how many row variables a view names, none where there is no view
pub named_or_none : (view : View) → unwrap_or view 0 ≡ named view
named_or_none None = refl
named_or_none (Some q) = refl
