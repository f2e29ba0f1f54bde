-- The equality table of a point, coordinate by coordinate from the last to the first.
use Rattle.std.proofs.Common.{◌≡◌, ℕ, suc, ◌+◌, ◌-◌, ◌*◌, ◌/◌, ◌%◌, ◌^◌, ◌<◌, ◌≤◌, List, [], ◌∷◌, ◌++◌, map, length, sym, refl, ap, ◌∙◌, subst, ap₂, subst₂, ⊎_elim, pow-suc, arith, length-append, pow_mono}
use native.Mathlib.Nat.{div-eq_of_lt}
use lib.Arith.{digits_div, digits_mod}
use lib.ListN.{length-map}
use Rattle.std.proofs.lemmas.Bool.{cases_lt}
use Rattle.level.specs.Element.{Element, plus}
use Rattle.level.specs.Laws.{Arithmetic, Laws}
use Rattle.level.proofs.Ring.{plus_times, unit_times}
use Rattle.multilinear.specs.Equality.{Point, factor, entry}
use Rattle.multilinear.specs.Lent.{lent}
use Rattle.multilinear.proofs.Entries.{entry_reduced}
use Rattle.equality.specs.Tables.{Widened, Tabulated}

-- the table of some coordinates stands in the first `half` places
pub record Tabulating {k : ℕ} (A : Arithmetic k) (s : Element k) (q : Point k) (half : ℕ) (table : ℕ → Element k) : Type 0 where
  pub size : half ≡ 2 ^ length q
  pub entries : (i : ℕ) → i < half → table i ≡ entry A s q i

module _ {k : ℕ} {A : Arithmetic k} (laws : Laws A) (s : Element k) where
  module _ (x : Element k) (q : Point k) where
    -- at the first coordinate's bit 0
    entry_low : (i : ℕ) → i < 2 ^ length q → entry A s (x ∷ q) i ≡ plus (entry A s q i) (A.times x (entry A s q i))
    unfolding entry factor
    entry_low i h =
        let e = entry A s q i in
        ap (λ b. A.times (factor A x (b % 2)) e) (div-eq_of_lt h) ∙ plus_times laws A.unit x e ∙ ap (λ y. plus y (A.times x e)) (unit_times laws e)

    -- at its bit 1
    entry_high : (i : ℕ) → i < 2 ^ length q → entry A s (x ∷ q) (2 ^ length q + i) ≡ A.times x (entry A s q i)
    unfolding entry factor
    entry_high i h =
        let n = 2 ^ length q in
        let place : n + i ≡ 1 * n + i = omega arith in
        ap₂ (λ b e. A.times (factor A x (b % 2)) e) (ap (λ j. j / n) place ∙ digits_div 1 h)
        (entry_reduced A s q (n + i) ∙ ap (entry A s q) (ap (λ j. j % n) place ∙ digits_mod 1 h))

    -- a widened table is that of one coordinate more
    entry_widened : (before after : ℕ → Element k) → Widened A x (2 ^ length q) before after
        → ((i : ℕ) → i < 2 ^ length q → before i ≡ entry A s q i) → (i : ℕ) → i < 2 ^ length q + 2 ^ length q → after i ≡ entry A s (x ∷ q) i
    entry_widened before after w e i h =
        let n = 2 ^ length q in
        ⊎_elim (λ l. w.low i l ∙ ap (λ y. plus y (A.times x y)) (e i l) ∙ sym (entry_low i l))
        (λ g.
        let j = i - n in
        let place : n + j ≡ i = omega arith in
        let l : j < n = omega arith in
        ap after (sym place) ∙ w.high j l ∙ ap (A.times x) (e j l) ∙ sym (entry_high j l) ∙ ap (entry A s (x ∷ q)) place)
        (cases_lt i n)

  pub tabulating_begins : (table : ℕ → Element k) → table 0 ≡ s → Tabulating A s [] 1 table
  unfolding entry
  tabulating_begins table e = record { size = refl; entries = λ i g. let first : i ≡ 0 = omega arith in ap table first ∙ e }

  -- one coordinate more
  pub tabulating_more : (q : Point k) (half : ℕ) (x : Element k) (before after : ℕ → Element k)
      → Widened A x half before after → Tabulating A s q half before → Tabulating A s (x ∷ q) (half * 2) after
  tabulating_more q half x before after w t =
      let all = entry_widened x q before after (subst (λ n. Widened A x n before after) t.size w) (λ i g. t.entries i (omega (arith, t.size))) in
      record {
        size = ap (λ n. n * 2) t.size ∙ sym (pow-suc 2 (length q));
        entries = λ i g. all i (omega (arith, t.size));
      }

module _ {X : Type 0} {k : ℕ} (means : X → Element k) (A : Arithmetic k) (s : Element k) where
  -- there is room for the next coordinate
  pub room_for_more : (point rest done : List X) (x : X) (half n : ℕ) (table : ℕ → Element k) → point ≡ (rest ++ x ∷ []) ++ done
      → n ≡ 2 ^ length point → Tabulating A s (map means done) half table → half + half ≤ n
  room_for_more point rest done x half n table parts size t =
      let l = length done in
      let m : suc l ≤ length point =
      omega (arith, ap length parts, length-append (rest ++ x ∷ []) done, length-append rest (x ∷ [])) in
      omega (arith, pow-suc 2 l, pow_mono m, t.size, ap (λ i. 2 ^ i) (length-map done means))

  -- no coordinate left
  pub tabulating_ends : (point rest done xs : List X) (half : ℕ) (start : Element k) → point ≡ rest ++ done → length rest ≡ 0
      → length xs ≡ 2 ^ length point → s ≡ start → Tabulating A s (map means done) half (lent means xs) → Tabulated means A start (map means point) xs
  tabulating_ends point rest done xs half start parts none size e t =
      let whole : point ≡ done = parts ∙ ap (λ r. r ++ done) (empty rest none) in
      let table : Tabulating A start (map means point) half (lent means xs) =
      subst₂ (λ u q. Tabulating A u (map means q) half (lent means xs)) e (sym whole) t in
      record {
        size = size ∙ ap (λ l. 2 ^ l) (sym (length-map point means));
        entries = λ i g. table.entries i (omega (arith, table.size));
      }
    where
      empty : (ys : List X) → length ys ≡ 0 → ys ≡ []
      empty [] h = refl
      empty (y ∷ ys) h = absurd (omega arith)
