-- A loop that sums terms one by one.
use Rattle.std.proofs.Common.{◌≡◌, ℕ, ◌+◌, ◌*◌, ◌%◌, ◌^◌, ◌<◌, ◌≤◌, length, sym, ap, ◌∙◌, ap₂, add-one, le_trans, mul-le-mul_right, pow-add, pow_mono, arith}
use Rattle.std.proofs.lemmas.Nat.{one_shl}
use Rattle.level.specs.Element.{Element, plus, zeros}
use Rattle.level.specs.Laws.{Arithmetic}
use Rattle.multilinear.specs.Sums.{sum}
use Rattle.multilinear.specs.Equality.{Point, equality, multilinear}

module _ {k : ℕ} (f : ℕ → Element k) where
  pub sum_begins : (s : Element k) → s ≡ zeros k → s ≡ sum 0 f
  unfolding sum
  sum_begins s e = e

  pub sum_more : (i : ℕ) (s t r : Element k) → s ≡ sum i f → t ≡ f i → r ≡ plus s t → r ≡ sum (i + 1) f
  unfolding sum
  sum_more i s t r e h made = made ∙ ap₂ plus e h ∙ ap (λ n. sum n f) (sym (add-one i))

  -- all of 2^l terms
  pub cube_sum : (l : ℕ) (s : Element k) → l < 64 → s ≡ sum ((1 * 2 ^ l) % 2 ^ 64) f → s ≡ sum (2 ^ l) f
  cube_sum l s h e = e ∙ ap (λ n. sum n f) (one_shl l 64 h)

-- all of a table's terms at a point
pub multilinear_sum : {k : ℕ} (A : Arithmetic k) (table : ℕ → Element k) (p : Point k) (l : ℕ) (s : Element k) → length p ≡ l → l < 64
    → s ≡ sum ((1 * 2 ^ l) % 2 ^ 64) (λ j. A.times (table j) (equality A p j)) → s ≡ multilinear A table p
unfolding multilinear
multilinear_sum {k} A table p l s len h e =
    let f : ℕ → Element k = λ j. A.times (table j) (equality A p j) in
    cube_sum f l s h e ∙ ap (λ n. sum (2 ^ n) f) (sym len)

-- a term whose first factor is known
pub term_is : {k : ℕ} (A : Arithmetic k) (r x y e : Element k) → r ≡ A.times x e → x ≡ y → r ≡ A.times y e
term_is A r x y e made same = made ∙ ap (λ z. A.times z e) same

-- a slot of 2^l packed elements of 2^k cells each, within a table of 2^n cells
pub slot_room : (s i v k n l : ℕ) → s + 2 ^ l ≤ 2 ^ v → i < (1 * 2 ^ l) % 2 ^ 64 → v + k ≡ n → n < 64 → l < 64
    → (s + i < 2 ^ 64) × ((s + i + 1) * 2 ^ k ≤ 2 ^ 64)
slot_room s i v k n l within below whole few short =
    let first : i < 2 ^ l = omega (arith, one_shl l 64 short) in
    let room : n ≤ 64 = omega arith in
    let past : s + i + 1 ≤ 2 ^ v = omega arith in
    let all : 2 ^ v * 2 ^ k ≤ 2 ^ 64 = omega (arith, pow-add 2 v k, ap (λ j. 2 ^ j) whole, pow_mono room) in
    let kept : v ≤ 64 = omega arith in
    (omega (arith, pow_mono kept), le_trans (mul-le-mul_right (2 ^ k) past) all)
