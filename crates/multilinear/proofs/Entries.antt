-- Entries of equality tables: their start value, the digits that they look at, and their factors.
use Rattle.std.proofs.Common.{◌≡◌, ℕ, suc, ◌+◌, ◌-◌, ◌*◌, ◌/◌, ◌%◌, ◌^◌, ◌<◌, [], ◌∷◌, ◌++◌, length, sym, refl, ap, ◌∙◌, ap₂, add_comm, arith, length-append, length-drop, take-append-drop, length-take-le, pow_pos, shr-shr}
use lib.Arith.{mul_pred, digits_div, digits_mod}
use lib.Pow.{ones_lt, mod-mod-pow}
use Rattle.level.specs.Element.{Element}
use Rattle.level.specs.Laws.{Arithmetic, Laws}
use Rattle.level.proofs.Digits.{low_bit}
use Rattle.level.proofs.Ring.{times_left_comm, unit_times}
use Rattle.multilinear.specs.Equality.{Point, factor, entry, equality, outer, inner, inner_count}
use Rattle.multilinear.specs.Factored.{Factored}

module _ {k : ℕ} (A : Arithmetic k) where
  pub entry_reduced : (s : Element k) (p : Point k) (i : ℕ) → entry A s p i ≡ entry A s p (i % 2 ^ length p)
  unfolding entry
  entry_reduced s [] i = refl
  entry_reduced s (x ∷ p) i =
      let l = length p in
      let e : suc l ≡ 1 + l = omega arith in
      let m = i % 2 ^ suc l in
      let digit = sym (low_bit i (suc l) l (omega arith)) in
      let rest : entry A s p i ≡ entry A s p m = entry_reduced s p i ∙ ap (entry A s p) (sym (mod-mod-pow i 1 l) ∙ ap (λ j. i % 2 ^ j % 2 ^ l) (sym e)) ∙ sym (entry_reduced s p m) in
      ap₂ (λ b y. A.times (factor A x b) y) digit rest

  -- so entries at indices that agree in those digits are the same
  pub entry_agree : (s : Element k) (p : Point k) (i j : ℕ) → i % 2 ^ length p ≡ j % 2 ^ length p → entry A s p i ≡ entry A s p j
  entry_agree s p i j e = entry_reduced s p i ∙ ap (entry A s p) e ∙ sym (entry_reduced s p j)

module _ {k : ℕ} {A : Arithmetic k} (laws : Laws A) where
  pub entry_started : (s : Element k) (p : Point k) (i : ℕ) → entry A s p i ≡ A.times s (equality A p i)
  unfolding entry
  entry_started s [] i = sym (laws.times_unit s)
  entry_started s (x ∷ p) i =
      let f = factor A x (i / 2 ^ length p % 2) in
      ap (A.times f) (entry_started s p i) ∙ times_left_comm laws f s (equality A p i)

  pub entry_split : (s : Element k) (p q : Point k) (i : ℕ)
      → entry A s (p ++ q) i ≡ A.times (equality A p (i / 2 ^ length q)) (entry A s q i)
  unfolding entry
  entry_split s [] q i = sym (unit_times laws (entry A s q i))
  entry_split s (x ∷ p) q i =
      let e : i / 2 ^ length (p ++ q) ≡ i / 2 ^ length q / 2 ^ length p =
      ap (λ l. i / 2 ^ l) (length-append p q ∙ add_comm (length p) (length q)) ∙ sym (shr-shr i (length q) (length p)) in
      ap₂ (λ n y. A.times (factor A x (n % 2)) y) e (entry_split s p q i) ∙ sym (laws.times_assoc _ _ _)

  -- a point in two parts, at the index in two parts
  pub entry_parts : (s : Element k) (p q : Point k) (a b : ℕ) → b < 2 ^ length q
      → entry A s (p ++ q) (a * 2 ^ length q + b) ≡ A.times (equality A p a) (entry A s q b)
  entry_parts s p q a b h =
      let m = a * 2 ^ length q + b in
      entry_split s p q m ∙ ap₂ A.times (ap (equality A p) (digits_div a h)) (entry_reduced A s q m ∙ ap (entry A s q) (digits_mod a h))

  halves : (p : Point k) → outer p ++ inner p ≡ p
  halves p = take-append-drop (length p - inner_count (length p)) p

  pub factored : Factored A
  factored = record {
    started = entry_started;
    reduced = entry_reduced A;
    split = entry_split;
    inner_length = λ p. omega (arith, length-drop (length p - inner_count (length p)) p);
    outer_length = λ p. length-take-le (length p - inner_count (length p)) p (omega arith);
    factored = λ s p i.
        let q = inner p in
        ap (λ r. entry A s r i) (sym (halves p)) ∙ entry_split s (outer p) q i
        ∙ ap (A.times (equality A (outer p) (i / 2 ^ length q))) (entry_reduced A s q i);
    before_block = λ p b h.
        let q = inner p in
        ap₂ (equality A) (sym (halves p)) (mul_pred h (pow_pos (length q))) ∙ entry_parts A.unit (outer p) q (b - 1) (2 ^ length q - 1) (ones_lt (length q));
  }
