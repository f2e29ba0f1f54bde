-- Which entries start and which end a column.
use Rattle.std.proofs.Common.{◌≡◌, ℕ, zero, suc, ◌+◌, ◌-◌, ◌*◌, ◌/◌, ◌%◌, ◌^◌, ◌<◌, ◌≤◌, false, ◌&&◌, eqb, sym, ap, ◌∙◌, ap₂, ⊎_elim, mod-lt, mod-eq_of_lt, mul_assoc, one-mul, zero-add, arith, pow_pos, pow-add}
use native.Mathlib.Nat.{mod-add-mod, mul-mod_left, zero-mod, suc-mod, mod_self}
use lib.Arith.{digits_div, digits_mod}
use lib.Pow.{mod-pow-add, ones_split, ones_lt}
use Rattle.std.proofs.lemmas.Bool.{eq-eqb, ne_eqb, eqb-false, cases_eq}
use Rattle.std.proofs.lemmas.Bool.Decides.{same_from_decides, Decides-eqb, Decides-like, Decides-and}
use Rattle.multilinear.specs.Columns.{starts, ends}

-- a multiple of a number added changes no remainder
pub shift_mod : (s i m : ℕ) → s % m ≡ 0 → (s + i) % m ≡ i % m
shift_mod s i m e = sym (mod-add-mod s m i) ∙ ap (λ n. (n + i) % m) e ∙ ap (λ n. n % m) (zero-add i)

-- what starts no column is not the first of all
pub starts_not : (r i : ℕ) → starts r i ≡ false → 0 < i
starts_not r zero e = absurd (eqb-false (0 % 2 ^ r) 0 e (zero-mod (2 ^ r)))
starts_not r (suc i) e = omega arith

pub before_in : (r s i : ℕ) → starts r i ≡ false → s + i - 1 ≡ s + (i - 1)
before_in r s i e = omega (arith, starts_not r i e)

-- a higher power of two, and any multiple of it, is a multiple of a lower one
pub pow_multiple : (a n r : ℕ) → r ≤ n → a * 2 ^ n % 2 ^ r ≡ 0
pow_multiple a n r h =
    let e : n ≡ n - r + r = omega arith in
    ap (λ m. a * m % 2 ^ r) (ap (λ m. 2 ^ m) e ∙ pow-add 2 (n - r) r) ∙ ap (λ m. m % 2 ^ r) (sym (mul_assoc a (2 ^ (n - r)) (2 ^ r)))
    ∙ mul-mod_left (a * 2 ^ (n - r)) (2 ^ r)

pub pow_mod : (n r : ℕ) → r ≤ n → 2 ^ n % 2 ^ r ≡ 0
pow_mod n r h = ap (λ m. m % 2 ^ r) (sym (one-mul (2 ^ n))) ∙ pow_multiple 1 n r h

-- the entry after one that ends a column starts one, and no other does
pub starts_suc : (r c : ℕ) → starts r (suc c) ≡ ends r c
starts_suc r c =
    let m = 2 ^ r in
    let j = c % m in
    let l : j < m = mod-lt c (pow_pos r) in
    let e : suc c % m ≡ suc j % m = suc-mod c m in
    ⊎_elim
    (λ (a : j ≡ m - 1). let f : suc j ≡ m = omega arith in eq-eqb _ _ (e ∙ ap (λ n. n % m) f ∙ mod_self m) ∙ sym (eq-eqb _ _ a))
    (λ a. let f : suc j < m = omega arith in let g : suc j % m ≡ suc j = mod-eq_of_lt f in ne_eqb _ _ (λ z. omega arith) ∙ sym (ne_eqb _ _ a))
    (cases_eq j (m - 1))

-- two digits at base m are compared one by one
digits_eqb : (m a b v u : ℕ) → v < m → u < m → eqb (a * m + v) (b * m + u) ≡ (eqb a b && eqb v u)
digits_eqb m a b v u l h =
    same_from_decides _ _ (Decides-eqb (a * m + v) (b * m + u))
    (Decides-like _ (λ e. ap₂ (λ x y. x * m + y) e.0 e.1)
    (λ e. (sym (digits_div a l) ∙ ap (λ n. n / m) e ∙ digits_div b h, sym (digits_mod a l) ∙ ap (λ n. n % m) e ∙ digits_mod b h))
    (Decides-and _ _ (Decides-eqb a b) (Decides-eqb v u)))

-- the place of a cell in its column, by its element's place and its own in that
cell_place : (r k w v : ℕ) → v < 2 ^ k → (w * 2 ^ k + v) % 2 ^ (r + k) ≡ w % 2 ^ r * 2 ^ k + v
cell_place r k w v h = mod-pow-add (w * 2 ^ k + v) r k ∙ ap₂ (λ a b. a % 2 ^ r * 2 ^ k + b) (digits_div w h) (digits_mod w h)

-- A column of 2^(r + k) cells has 2^r elements of 2^k cells: it starts with the first cell of one that starts a column, and
-- ends with the last cell of one that ends it.
pub starts_split : (r k w v : ℕ) → v < 2 ^ k → starts (r + k) (w * 2 ^ k + v) ≡ (starts r w && eqb v 0)
starts_split r k w v h =
    let z : 0 ≡ 0 * 2 ^ k + 0 = omega arith in
    ap₂ eqb (cell_place r k w v h) z ∙ digits_eqb (2 ^ k) (w % 2 ^ r) 0 v 0 h (pow_pos k)

pub ends_split : (r k w v : ℕ) → v < 2 ^ k → ends (r + k) (w * 2 ^ k + v) ≡ (ends r w && eqb v (2 ^ k - 1))
ends_split r k w v h =
    ap₂ eqb (cell_place r k w v h) (ones_split r k) ∙ digits_eqb (2 ^ k) (w % 2 ^ r) (2 ^ r - 1) v (2 ^ k - 1) h (ones_lt k)
