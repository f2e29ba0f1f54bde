-- The slot: what a run of leading zeros and ones selects.
use Rattle.std.proofs.Common.{◌≡◌, ℕ, zero, suc, ◌+◌, ◌-◌, ◌*◌, ◌/◌, ◌%◌, ◌^◌, ◌<◌, ◌≤◌, cond, eqb, ◌⊎◌, [], ◌∷◌, length, take, drop, sym, refl, ap, ◌∙◌, subst, ap₂, ⊎_elim, mul-le-mul_right, mod-lt, mod-eq_of_lt, pow-suc, arith, length-drop, take-append-drop, length-take, length-take-le, take-take, pow_pos, pow-add, shr_lt}
use lib.Arith.{digits_lt, digits_div, digits_mod}
use lib.Pow.{split}
use Rattle.std.proofs.lemmas.Bool.{cases_eq}
use Rattle.std.proofs.lemmas.Bool.Decides.{nat_tests}
use Rattle.std.proofs.lemmas.Nat.{div_below}
use Rattle.level.specs.Element.{Element, zeros}
use Rattle.level.specs.Laws.{Arithmetic, Laws}
use Rattle.level.proofs.Elements.{same, zeros_is, plus_zeros, plus_self}
use Rattle.level.proofs.Ring.{unit_times, zeros_times, times_zeros}
use Rattle.multilinear.specs.Equality.{Point, factor, entry, equality}
use Rattle.multilinear.proofs.Entries.{entry_agree, entry_parts}
use Rattle.ring_switch.specs.Opening.{Prefix, Opening, variables, selects, lead, run, prefix, limit, high, low}

-- how many coordinates the packing keeps, and how many it absorbs
pub high_length : {k : ℕ} (o : Opening k) → length (high o) ≡ variables o
high_length o = length-take-le (variables o) o.point (omega arith)

pub low_length : {k : ℕ} (o : Opening k) → k ≤ length o.point → length (low o) ≡ k
low_length o h = omega (arith, length-drop (variables o) o.point)

-- a run's coordinates have the entry one at the run's address, and zero elsewhere
pub record Selected {k : ℕ} (A : Arithmetic k) (p : Point k) (r : Prefix) : Type 0 where
  pub within : r.count ≤ length p
  pub fits : r.address < 2 ^ r.count
  pub at_address : equality A (take r.count p) r.address ≡ A.unit
  pub elsewhere : (j : ℕ) → j < 2 ^ r.count → (j ≡ r.address → ⊥) → equality A (take r.count p) j ≡ zeros k

none_selected : {k : ℕ} {A : Arithmetic k} (p : Point k) → Selected A p (record { count = 0; address = 0 })
unfolding entry
none_selected p = record { within = omega arith; fits = omega arith; at_address = refl; elsewhere = λ j h n. absurd (n (omega arith)) }

-- what the choice of `selects` tells of the two numbers that it compares
choice_zero : (n m : ℕ) → ◌≡◌ {A = ℕ} (cond (eqb n 0) 0 (cond (eqb n m) 1 2)) 0 → n ≡ 0
choice_zero n m e = grind (arith, nat_tests)

choice_one : (n m : ℕ) → ◌≡◌ {A = ℕ} (cond (eqb n 0) 0 (cond (eqb n m) 1 2)) 1 → n ≡ m
choice_one n m e = grind (arith, nat_tests)

module _ {k : ℕ} {A : Arithmetic k} (laws : Laws A) where
  selects_zeros : (x : Element k) → selects A x ≡ 0 → x ≡ zeros k
  unfolding selects
  selects_zeros x e = same x (zeros k) (choice_zero _ _ e ∙ sym (zeros_is k))

  selects_unit : (x : Element k) → selects A x ≡ 1 → x ≡ A.unit
  unfolding selects
  selects_unit x e = same x A.unit (choice_one _ _ e)

  -- one more coordinate in front, at an index with one more binary digit
  entry_more : (x : Element k) (p : Point k) (c b j : ℕ) → length p ≡ c → b < 2 → j < 2 ^ c
      → equality A (x ∷ p) (b * 2 ^ c + j) ≡ A.times (factor A x b) (equality A p j)
  unfolding entry
  entry_more x p c b j e h l =
      let m = b * 2 ^ c + j in
      let digit : m / 2 ^ length p % 2 ≡ b = ap (λ i. m / 2 ^ i % 2) e ∙ ap (λ n. n % 2) (digits_div b l) ∙ mod-eq_of_lt h in
      let low : m % 2 ^ length p ≡ j % 2 ^ length p = ap (λ i. m % 2 ^ i) e ∙ digits_mod b l ∙ sym (ap (λ i. j % 2 ^ i) e ∙ mod-eq_of_lt l) in
      ap₂ (λ d y. A.times (factor A x d) y) digit (entry_agree A A.unit p m j low)

  -- a coordinate whose factor is one at one digit and zero at the other goes before what is selected
  chosen : (x : Element k) (p : Point k) (r : Prefix) (b : ℕ) → b < 2 → factor A x b ≡ A.unit
      → ((d : ℕ) → d < 2 → (d ≡ b → ⊥) → factor A x d ≡ zeros k) → Selected A p r
      → Selected A (x ∷ p) (record { count = suc r.count; address = b * 2 ^ r.count + r.address })
  chosen x p r b h own other s = record {
    within = omega (arith, s.within);
    fits = omega (arith, digits_lt h s.fits, pow-suc 2 r.count);
    at_address = entry_more x taken c b a len h s.fits ∙ ap₂ A.times own s.at_address ∙ laws.times_unit A.unit;
    elsewhere = λ j l n.
        let d = j / 2 ^ c in
        let i = j % 2 ^ c in
        let d< : d < 2 = shr_lt 1 c (subst (λ m. j < 2 ^ m) (suc_one c) l) in
        let i< : i < 2 ^ c = mod-lt j (pow_pos c) in
        let whole : d * 2 ^ c + i ≡ j = split j c in
        ap (equality A (x ∷ taken)) (sym whole) ∙ entry_more x taken c d i len d< i<
        ∙ ⊎_elim (λ e. ap (A.times (factor A x d)) (s.elsewhere i i< (λ f. n (sym whole ∙ ap₂ (λ u v. u * 2 ^ c + v) e f))) ∙ times_zeros laws (factor A x d))
        (λ ne. ap (λ y. A.times y (equality A taken i)) (other d d< ne) ∙ zeros_times laws (equality A taken i))
        (cases_eq d b);
  }
    where
      c : ℕ
      c = r.count

      a : ℕ
      a = r.address

      taken : Point k
      taken = take c p

      len : length taken ≡ c
      len = length-take-le c p s.within

      suc_one : (m : ℕ) → suc m ≡ 1 + m
      suc_one m = omega arith

  -- the factors of zero and of one
  zeros_own : factor A (zeros k) 0 ≡ A.unit
  unfolding factor
  zeros_own = plus_zeros A.unit

  zeros_other : (d : ℕ) → d < 2 → (d ≡ 0 → ⊥) → factor A (zeros k) d ≡ zeros k
  unfolding factor
  zeros_other zero h n = absurd (n refl)
  zeros_other (suc d) h n = refl

  unit_own : factor A A.unit 1 ≡ A.unit
  unfolding factor
  unit_own = refl

  unit_other : (d : ℕ) → d < 2 → (d ≡ 1 → ⊥) → factor A A.unit d ≡ zeros k
  unfolding factor
  unit_other zero h n = plus_self A.unit
  unit_other (suc d) h n = let e : suc d ≡ 1 = omega arith in absurd (n e)

  lead_selected : (x : Element k) (p : Point k) (r : Prefix) (b : ℕ) → selects A x ≡ b → Selected A p r → Selected A (x ∷ p) (lead b r)
  unfolding lead
  lead_selected x p r zero e s =
      let z = selects_zeros x e in
      let address : 0 * 2 ^ r.count + r.address ≡ r.address = omega arith in
      subst (λ (a : ℕ). Selected A (x ∷ p) (record { count = suc r.count; address = a })) address
      (chosen x p r 0 (omega arith) (ap (λ y. factor A y 0) z ∙ zeros_own) (λ d h n. ap (λ y. factor A y d) z ∙ zeros_other d h n) s)
  lead_selected x p r (suc zero) e s =
      let o = selects_unit x e in
      let address : 1 * 2 ^ r.count + r.address ≡ 2 ^ r.count + r.address = omega arith in
      subst (λ (a : ℕ). Selected A (x ∷ p) (record { count = suc r.count; address = a })) address
      (chosen x p r 1 (omega arith) (ap (λ y. factor A y 1) o ∙ unit_own) (λ d h n. ap (λ y. factor A y d) o ∙ unit_other d h n) s)
  lead_selected x p r (suc (suc b)) e s = none_selected (x ∷ p)

  pub run_selected : (p : Point k) → Selected A p (run A p)
  unfolding run
  run_selected [] = none_selected []
  run_selected (x ∷ p) = lead_selected x p (run A p) (selects A x) refl (run_selected p)

  -- what is selected of the first coordinates is selected of them all
  selected_take : (n : ℕ) (p : Point k) (r : Prefix) → Selected A (take n p) r → Selected A p r
  selected_take n p r s =
      let l = length-take n p in
      let h : r.count ≤ n = omega (arith, s.within) in
      let e = take-take r.count n p h in
      record {
        within = omega (arith, s.within);
        fits = s.fits;
        at_address = ap (λ q. equality A q r.address) (sym e) ∙ s.at_address;
        elsewhere = λ j g m. ap (λ q. equality A q j) (sym e) ∙ s.elsewhere j g m;
      }

  pub prefix_selected : (o : Opening k) → Selected A (high o) (prefix A o)
  unfolding prefix
  prefix_selected o =
      let n = limit k (length o.point) o.view in
      selected_take n (high o) _ (run_selected (take n (high o)))

  -- the prefix stays within its limit
  pub prefix_limit : (o : Opening k) → (prefix A o).count ≤ limit k (length o.point) o.view
  unfolding prefix
  prefix_limit o =
      let n = limit k (length o.point) o.view in
      omega (arith, (run_selected (take n (high o))).within, length-take n (high o))

  -- The entries of a point whose first coordinates are selected: those of the others from the address on, and zero elsewhere.
  module _ (p : Point k) (r : Prefix) (s : Selected A p r) where
    pub after_count : 2 ^ length p ≡ 2 ^ r.count * 2 ^ length (drop r.count p)
    after_count =
        let e : length p ≡ r.count + length (drop r.count p) = omega (arith, length-drop r.count p, s.within) in
        ap (λ n. 2 ^ n) e ∙ pow-add 2 r.count (length (drop r.count p))

    pub after_within : r.address * 2 ^ length (drop r.count p) + 2 ^ length (drop r.count p) ≤ 2 ^ length p
    after_within = omega (arith, after_count, mul-le-mul_right (2 ^ length (drop r.count p)) s.fits)

    pub after_inside : (i : ℕ) → i < 2 ^ length (drop r.count p)
        → equality A p (r.address * 2 ^ length (drop r.count p) + i) ≡ equality A (drop r.count p) i
    after_inside i h =
        let q = drop r.count p in
        ap (λ t. equality A t (r.address * 2 ^ length q + i)) (sym (take-append-drop r.count p))
        ∙ entry_parts laws A.unit (take r.count p) q r.address i h ∙ ap (λ y. A.times y (equality A q i)) s.at_address
        ∙ unit_times laws (equality A q i)

    pub after_outside : (w : ℕ) → w < 2 ^ length p
        → (w < r.address * 2 ^ length (drop r.count p)) ⊎ (r.address * 2 ^ length (drop r.count p) + 2 ^ length (drop r.count p) ≤ w)
        → equality A p w ≡ zeros k
    after_outside w h out =
        let q = drop r.count p in
        let n = 2 ^ length q in
        let d = w / n in
        let i = w % n in
        let i< : i < n = mod-lt w (pow_pos (length q)) in
        let whole : d * n + i ≡ w = split w (length q) in
        let d< : d < 2 ^ r.count = div_below w n (2 ^ r.count) (pow_pos (length q)) (subst (λ m. w < m) after_count h) in
        let off : d ≡ r.address → ⊥ = λ e. let e' : d * n ≡ r.address * n = ap (λ m. m * n) e in ⊎_elim (λ g. omega arith) (λ g. omega arith) out in
        ap₂ (equality A) (sym (take-append-drop r.count p)) (sym whole)
        ∙ entry_parts laws A.unit (take r.count p) q d i i< ∙ ap (λ y. A.times y (equality A q i)) (s.elsewhere d d< off)
        ∙ zeros_times laws (equality A q i)
