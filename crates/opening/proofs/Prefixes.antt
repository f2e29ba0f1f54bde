-- The leading zeros and ones of a point, coordinate by coordinate from the first.
use Rattle.std.proofs.Common.{◌≡◌, ℕ, min, zero, suc, ◌+◌, ◌-◌, ◌*◌, ◌^◌, ◌<◌, ◌≤◌, false, cond, eqb, List, map, length, get_or, take, drop, Some, None, Option, ltb, sym, refl, ap, ◌∙◌, ap₂, le_trans, lt_of_lt_of_le, mul-le-mul_right, mul_assoc, mul_comm, add-mul, pow-suc, add-one, arith, pow_mono, pow-add}
use Rattle.std.specs.Option.{MatchOption, unwrap_or}
use lib.ListN.{length-map}
use Rattle.std.proofs.lemmas.Nat.{shl_below}
use Rattle.std.proofs.lemmas.List.{drop_more, drop_all, drop-take, take-take, take-map, drop-map}
use Rattle.std.proofs.lemmas.Bool.{eq-eqb, ne_eqb}
use Rattle.std.proofs.lemmas.Bool.Decides.{nat_tests}
use Rattle.level.specs.Element.{Element, width, zeros}
use Rattle.level.specs.Laws.{Arithmetic, Laws}
use Rattle.level.proofs.Elements.{same, zeros_is}
use Rattle.multilinear.specs.Equality.{Point}
use Rattle.ring_switch.proofs.SlotTensors.{slot}
use Rattle.ring_switch.specs.Opening.{View, Prefix, Opening, named, variables, high, low, kept, limit, selects, lead, run, prefix, rest, slot_start}

pub limit_within : (k n : ℕ) (view : View) → limit k n view ≤ n - k
unfolding limit
limit_within k n view = omega arith

module _ {k : ℕ} (A : Arithmetic k) where
  number_differs : (x y : Element k) → (x ≡ y → ⊥) → eqb x.number y.number ≡ false
  number_differs x y ne = ne_eqb _ _ (λ e. ne (same x y e))

  pub selects_zero : (x z : Element k) → z ≡ zeros k → x ≡ z → selects A x ≡ 0
  unfolding selects
  selects_zero x z e h =
      ap (λ b. cond b 0 (cond (eqb x.number A.unit.number) 1 2)) (eq-eqb _ _ (ap (λ y. y.number) (h ∙ e) ∙ zeros_is k))

  not_zero : (x z : Element k) → z ≡ zeros k → (x ≡ z → ⊥) → eqb x.number 0 ≡ false
  not_zero x z e ne = ap (eqb x.number) (sym (ap (λ y. y.number) e ∙ zeros_is k)) ∙ number_differs x z ne

  pub selects_one : (x z o : Element k) → z ≡ zeros k → o ≡ A.unit → (x ≡ z → ⊥) → x ≡ o → selects A x ≡ 1
  unfolding selects
  selects_one x z o e u ne h =
      ap₂ (λ a b. cond a 0 (cond b 1 2)) (not_zero x z e ne) (eq-eqb _ _ (ap (λ y. y.number) (h ∙ u)))

  pub selects_other : (x z o : Element k) → z ≡ zeros k → o ≡ A.unit → (x ≡ z → ⊥) → (x ≡ o → ⊥) → selects A x ≡ 2
  unfolding selects
  selects_other x z o e u ne other =
      ap₂ (λ a b. cond a 0 (cond b 1 2)) (not_zero x z e ne) (ap (λ y. eqb x.number y.number) (sym u) ∙ number_differs x o other)

  -- The first c coordinates of p are zeros and ones that spell the address a, and what is left gives the rest of the run.
  pub record SoFar (p : Point k) (c a : ℕ) : Type 0 where
    pub counted : (run A p).count ≡ c + (run A (drop c p)).count
    pub spelt : (run A p).address ≡ a * 2 ^ (run A (drop c p)).count + (run A (drop c p)).address
    pub bounded : a < 2 ^ c

  -- what a coordinate puts in front
  lead_count : (b : ℕ) (r : Prefix) → b < 2 → (lead b r).count ≡ suc r.count
  unfolding lead
  lead_count zero r h = refl
  lead_count (suc zero) r h = refl
  lead_count (suc (suc b)) r h = absurd (omega (arith, h))

  lead_address : (b : ℕ) (r : Prefix) → b < 2 → (lead b r).address ≡ b * 2 ^ r.count + r.address
  unfolding lead
  lead_address zero r h = omega arith
  lead_address (suc zero) r h = omega arith
  lead_address (suc (suc b)) r h = absurd (omega (arith, h))

  pub so_far_more : (p : Point k) (c a b a' : ℕ) (x : Element k) → c < length p → x ≡ get_or p c (zeros k)
      → b < 2 → selects A x ≡ b → a' ≡ 2 * a + b → SoFar p c a → SoFar p (c + 1) a'
  unfolding run
  so_far_more p c a b a' x h read bit sel made s =
      let r = run A (drop (c + 1) p) in
      let front : run A (drop c p) ≡ lead b r =
      ap (run A) (drop_more p c (zeros k) h) ∙ ap (λ y. lead (selects A y) r) (sym read) ∙ ap (λ n. lead n r) sel in
      let n = ap (λ q. q.count) front ∙ lead_count b r bit in
      let d = ap (λ q. q.address) front ∙ lead_address b r bit in
      let t = 2 ^ r.count in
      let p₁ : 2 ^ (run A (drop c p)).count ≡ t * 2 = ap (λ i. 2 ^ i) n ∙ pow-suc 2 r.count in
      let p₂ : a * (t * 2) ≡ 2 * a * t = mul_comm a (t * 2) ∙ mul_assoc t 2 a ∙ mul_comm t (2 * a) in
      let p₃ : 2 ^ (c + 1) ≡ 2 * 2 ^ c = ap (λ i. 2 ^ i) (add-one c) ∙ pow-suc 2 c ∙ mul_comm (2 ^ c) 2 in
      record {
        counted = omega (arith, s.counted, n);
        spelt = omega (arith, s.spelt ∙ ap₂ (λ i j. a * i + j) p₁ d, p₂, ap (λ i. i * t) made, add-mul (2 * a) b t);
        bounded = omega (arith, s.bounded);
      }

  -- nothing is left, or a coordinate that is neither zero nor one
  ended : (p : Point k) (c a : ℕ) → run A (drop c p) ≡ record { count = 0; address = 0 } → SoFar p c a
      → (c ≡ (run A p).count) × (a ≡ (run A p).address)
  ended p c a e s =
      let n = ap (λ r. r.count) e in
      let d = ap (λ r. r.address) e in
      let t : a * 2 ^ (run A (drop c p)).count ≡ a * 1 = ap (λ i. a * 2 ^ i) n in
      (omega (arith, s.counted, n), omega (arith, s.spelt, t, d))

  pub so_far_all : (p : Point k) (c a : ℕ) → length p ≤ c → SoFar p c a → (c ≡ (run A p).count) × (a ≡ (run A p).address)
  unfolding run
  so_far_all p c a h s = ended p c a (ap (run A) (drop_all c p h)) s

  pub so_far_stops : (p : Point k) (c a : ℕ) (x : Element k) → c < length p → x ≡ get_or p c (zeros k) → selects A x ≡ 2
      → SoFar p c a → (c ≡ (run A p).count) × (a ≡ (run A p).address)
  unfolding run lead
  so_far_stops p c a x h read sel s =
      let r = run A (drop (c + 1) p) in
      ended p c a (ap (run A) (drop_more p c (zeros k) h) ∙ ap (λ y. lead (selects A y) r) (sym read) ∙ ap (λ n. lead n r) sel) s

  -- the prefix is the run of the coordinates that may select
  pub prefix_is_run : {X : Type 0} (means : X → Element k) (xs : List X) (view : View) (l : ℕ) → l ≡ limit k (length xs) view
      → run A (map means (take l xs)) ≡ prefix A (record { point = map means xs; view = view })
  unfolding prefix
  prefix_is_run means xs view l e =
      let n = length-map xs means in
      let within : l ≤ length (map means xs) - k = omega (arith, limit_within k (length xs) view, n) in
      ap (run A) (sym (take-map means l xs) ∙ sym (take-take l (length (map means xs) - k) (map means xs) within))
      ∙ ap (λ i. run A (take i (take (length (map means xs) - k) (map means xs)))) (e ∙ ap (λ m. limit k m view) (sym n))

  -- the coordinates of a slice that the packing keeps, and those that an element absorbs, by what they mean
  pub high_is_part : {X : Type 0} (means : X → Element k) (xs : List X) (view : View) (h : ℕ) → h ≡ length xs - k
      → map means (take h xs) ≡ high (record { point = map means xs; view = view })
  high_is_part means xs view h e = sym (take-map means h xs) ∙ ap (λ n. take n (map means xs)) (e ∙ ap (λ n. n - k) (sym (length-map xs means)))

  pub low_is_part : {X : Type 0} (means : X → Element k) (xs : List X) (view : View) (h : ℕ) → h ≡ length xs - k
      → map means (drop h xs) ≡ low (record { point = map means xs; view = view })
  low_is_part means xs view h e = sym (drop-map means h xs) ∙ ap (λ n. drop n (map means xs)) (e ∙ ap (λ n. n - k) (sym (length-map xs means)))

  -- the slot's coordinates, as a part of the kept ones
  pub rest_is_part : {X : Type 0} (means : X → Element k) (hs : List X) (o : Opening k) (c : ℕ)
      → c ≡ (prefix A o).count → map means hs ≡ high o → map means (drop c hs) ≡ rest A o
  unfolding rest
  rest_is_part means hs o c counted e = sym (drop-map means c hs) ∙ ap₂ drop counted e

  -- and its first packed element
  pub slot_starts : (o : Opening k) (a l : ℕ) → a ≡ (prefix A o).address → l ≡ length (rest A o) → a * 2 ^ l ≡ slot_start A o
  unfolding slot_start
  slot_starts o a l e h = ap₂ (λ x y. x * 2 ^ y) e h

-- an address of c bits before slots of 2^l leaves room where c + l is below 64
pub address_fits : (a c l : ℕ) → a < 2 ^ c → c + l < 64 → a * 2 ^ l < 2 ^ 64
address_fits a c l h room = let few : c + l ≤ 64 = omega arith in lt_of_lt_of_le (shl_below a c l h) (pow_mono few)

-- the row variables that are kept, by whether a view names any
pub kept_by_view : (k : ℕ) (view r : Option ℕ) → MatchOption view (r ≡ None) (λ q. r ≡ cond (ltb k q) (Some (q - k)) None) → r ≡ kept k view
unfolding kept
kept_by_view k None r e = e
kept_by_view k (Some q) r e = e

-- how many are kept, none where no view names any
pub kept_or_none : (k : ℕ) (view : View) → unwrap_or (kept k view) 0 ≡ named view - k
unfolding kept
kept_or_none k None = omega arith
kept_or_none k (Some q) = grind (arith, nat_tests)

-- how many coordinates may select, by whether a view names row variables
pub limit_by_view : (k n : ℕ) (view : Option ℕ) (r : ℕ) → MatchOption view (r ≡ n - k) (λ q. r ≡ min (n - k) (n - q)) → r ≡ limit k n view
unfolding limit
limit_by_view k n None r e = omega (arith, e)
limit_by_view k n (Some q) r e = e
