-- Tables of subset sums, completed from the weights at the places of single coordinates.
use Rattle.std.proofs.Common.{◌≡◌, ℕ, zero, suc, ◌+◌, ◌-◌, ◌*◌, ◌/◌, ◌%◌, ◌^◌, ◌<◌, ◌≤◌, List, length, set, take, drop, sym, refl, ap, ◌∙◌, ap₂, ⊎_elim, zero-add, pow-suc, arith, pow_pos, pow_mono}
use borrow.Rule.Slice.PartMut.{put_mid}
use lib.Bits.{bit_and, and_le_r}
use lib.Count.{count_trailing_zeros, under}
use lib.Pow.{pow-lt}
use Rattle.std.proofs.lemmas.Bool.{cases_eq, cases_lt, cases_order}
use Rattle.level.specs.Element.{Element, plus, zeros}
use Rattle.multilinear.specs.Lent.{lent}
use Rattle.multilinear.specs.Sums.{at_bit}
use Rattle.multilinear.proofs.Sums.{sum_same}
use Rattle.multilinear.proofs.Windows.{sum_single}
use Rattle.tensor_algebra.specs.Subsets.{byte_sum}
use Rattle.tensor_algebra.proofs.Basis.{at_power}
use Rattle.tensor_algebra.proofs.LowestBit.{lowest_below}
use Rattle.tensor_algebra.proofs.SubsetSums.{byte_zero, byte_extends}
use Rattle.multilinear.proofs.Lent.{lent_written, lent_kept}
use Rattle.multilinear.proofs.Places.{before_part, in_part, past_part, of_part}
use Rattle.basis.specs.Tables.{lone, held, Completed, Tabulated}
use Rattle.level.specs.Bytes.{num_bytes}

-- the lowest set bit of a number, alone, is no more than the number
pub lowest_le : (w n : ℕ) → 0 < n → n < 2 ^ w → 2 ^ count_trailing_zeros w n ≤ n
unfolding count_trailing_zeros
lowest_le zero n p h = absurd (omega arith)
lowest_le (suc w) n p h = go (n % 2) refl (λ q. lowest_le w (n / 2) q (omega (arith, pow-suc 2 w)))
  where
    go : (d : ℕ) → n % 2 ≡ d → (0 < n / 2 → 2 ^ count_trailing_zeros w (n / 2) ≤ n / 2) → 2 ^ under d (count_trailing_zeros w (n / 2)) ≤ n
    go zero q ih = omega (arith, ih (omega arith), pow-suc 2 (count_trailing_zeros w (n / 2)))
    go (suc d) q ih = omega arith

-- the places of single coordinates
few : (b : ℕ) → b < 8 → 2 ^ b ≤ 128
few b h = let l : b ≤ 7 = omega arith in let m : 2 ^ b ≤ 2 ^ 7 = pow_mono l in m

pub lone_at : (j b : ℕ) → b < 8 → lone (8 * j + b) ≡ 256 * j + 2 ^ b
lone_at j b h =
    let q : (8 * j + b) / 8 ≡ j = omega arith in
    let r : (8 * j + b) % 8 ≡ b = omega arith in
    ap₂ (λ m n. 256 * m + 2 ^ n) q r

pub lone_within : (u n : ℕ) → u < 8 * n → lone u < 256 * n
lone_within u n h = omega (arith, few (u % 8) (omega arith))

powers_differ : (a b : ℕ) → 2 ^ a ≡ 2 ^ b → a ≡ b
powers_differ a b e =
    ⊎_elim (λ q. q) (⊎_elim (λ l. absurd (omega (arith, pow-lt l))) (λ l. absurd (omega (arith, pow-lt l)))) (cases_order a b)

pub lone_differs : (u v : ℕ) → (v ≡ u → ⊥) → lone v ≡ lone u → ⊥
lone_differs u v ne e =
    let a = few (u % 8) (omega arith) in
    let b = few (v % 8) (omega arith) in
    let q : v / 8 ≡ u / 8 = omega arith in
    let r : 2 ^ (v % 8) ≡ 2 ^ (u % 8) = omega arith in
    ne (omega (arith, powers_differ (v % 8) (u % 8) r))

module _ {k : ℕ} where
  -- the weights of its eight coordinates make a byte's sum
  byte_moved : (f g : ℕ → Element k) (i j s : ℕ) → ((b : ℕ) → b < 8 → f (8 * i + b) ≡ g (8 * j + b)) → byte_sum f i s ≡ byte_sum g j s
  unfolding byte_sum
  byte_moved f g i j s e = sum_same 8 _ _ (λ b h. ap (at_bit (s / 2 ^ b % 2)) (e b h))

  pub byte_same : (f g : ℕ → Element k) (j s : ℕ) → ((b : ℕ) → b < 8 → f (8 * j + b) ≡ g (8 * j + b)) → byte_sum f j s ≡ byte_sum g j s
  byte_same f g j s e = byte_moved f g j j s e

  -- the sum for one coordinate is its weight
  byte_lone : (f : ℕ → Element k) (j t : ℕ) → t < 8 → byte_sum f j (2 ^ t) ≡ f (8 * j + t)
  unfolding byte_sum
  byte_lone f j t h = sum_same 8 _ _ (λ b _. at_power t b (f (8 * j + b))) ∙ sum_single 8 t h (λ b. f (8 * j + b))

  -- The sums of byte position j for the subsets below s are in place, and every other place is as it was.
  pub record Begun (old new : ℕ → Element k) (j s : ℕ) : Type 0 where
    pub below : (r : ℕ) → r < s → new (256 * j + r) ≡ byte_sum (held old) j r
    pub before : (i : ℕ) → i < 256 * j → new i ≡ old i
    pub after : (i : ℕ) → 256 * j + s ≤ i → new i ≡ old i

  pub begun_none : (old : ℕ → Element k) (j : ℕ) → old (256 * j) ≡ zeros k → Begun old old j 1
  begun_none old j e = record {
    below = λ r h. let z : r ≡ 0 = omega arith in let p : 256 * j + 0 ≡ 256 * j = omega arith in
        ap (λ i. old (256 * j + i)) z ∙ ap old p ∙ e ∙ sym (byte_zero (held old) j) ∙ ap (byte_sum (held old) j) (sym z);
    before = λ i _. refl;
    after = λ i _. refl;
  }

  module _ (old new next : ℕ → Element k) (j s : ℕ) (x : Element k) where
    -- the weight of the lowest coordinate of s stands at its place, completed or not
    lowest_held : 0 < s → s < 256 → Begun old new j s → new (256 * j + 2 ^ count_trailing_zeros 64 s) ≡ held old (8 * j + count_trailing_zeros 64 s)
    lowest_held p h b =
        let t = count_trailing_zeros 64 s in
        let l : t < 8 = lowest_below 8 64 s p h (omega arith) in
        ⊎_elim (λ q. b.below (2 ^ t) q ∙ byte_lone (held old) j t l)
        (λ q. b.after (256 * j + 2 ^ t) (omega arith) ∙ ap old (sym (lone_at j t l))) (cases_lt (2 ^ t) s)

    pub begun_more : 0 < s → s < 256 → Begun old new j s
        → x ≡ plus (new (256 * j + bit_and s (s - 1))) (new (256 * j + 2 ^ count_trailing_zeros 64 s))
        → next (256 * j + s) ≡ x → ((i : ℕ) → (i ≡ 256 * j + s → ⊥) → next i ≡ new i) → Begun old next j (s + 1)
    begun_more p h b made here kept =
        let here' : next (256 * j + s) ≡ byte_sum (held old) j s =
        here ∙ made ∙ ap₂ plus (b.below (bit_and s (s - 1)) (omega (arith, and_le_r s (s - 1)))) (lowest_held p h b)
        ∙ sym (byte_extends (held old) j s 64 p h (omega arith)) in
        record {
          below = λ r l. ⊎_elim
              (λ e. ap (λ i. next (256 * j + i)) e ∙ here' ∙ ap (byte_sum (held old) j) (sym e))
              (λ ne. kept (256 * j + r) (λ e. ne (omega arith)) ∙ b.below r (omega (arith, ne))) (cases_eq r s);
          before = λ i l. kept i (λ e. omega arith) ∙ b.before i l;
          after = λ i l. kept i (λ e. omega arith) ∙ b.after i (omega arith);
        }

  -- the weights are as they were before the sum for no coordinate was written
  pub begun_all : (first old new : ℕ → Element k) (j s : ℕ) → s ≤ 256 → 256 ≤ s → ((i : ℕ) → (i ≡ 256 * j → ⊥) → old i ≡ first i)
      → Begun old new j s → Completed first new j
  begun_all first old new j s above below kept b = record {
    entry = λ r h. b.below r (omega arith) ∙ byte_same (held old) (held first) j r (λ u l. kept (lone (8 * j + u)) (λ e. omega (arith, lone_at j u l, pow_pos u)));
    before = λ i h. b.before i h ∙ kept i (λ e. omega arith);
    after = λ i h. b.after i (omega arith) ∙ kept i (λ e. omega arith);
  }

  -- a byte position completed in its own part of the tables
  pub completed_part : {X : Type 0} (means : X → Element k) (xs table : List X) (j size : ℕ) → size ≡ 256 → 256 * j + 256 ≤ length xs → length table ≡ 256
      → Completed (lent means (take size (drop (256 * j) xs))) (lent means table) 0
      → Completed (lent means xs) (lent means (put_mid (256 * j) size xs table)) j
  completed_part means xs table j size whole room long c =
      let part : ℕ → Element k = lent means (take size (drop (256 * j) xs)) in
      record {
        entry = λ s h.
            in_part means (256 * j) size xs table s (omega arith) (omega arith) ∙ ap (lent means table) (sym (zero-add s)) ∙ c.entry s h
            ∙ byte_moved (held part) (held (lent means xs)) 0 j s
            (λ b l.
            ap part (lone_at 0 b l ∙ zero-add (2 ^ b)) ∙ of_part means (256 * j) size xs (2 ^ b) (omega (arith, few b l, whole))
            ∙ ap (lent means xs) (sym (lone_at j b l)));
        before = λ i h. before_part means (256 * j) size xs table i h (omega arith);
        after = λ i h. past_part means (256 * j) size xs table i (omega arith) (omega arith) (omega arith);
      }

  -- The sums of the byte positions below n are in place, and every other place is as it was.
  pub record CompletedBelow (old new : ℕ → Element k) (n : ℕ) : Type 0 where
    pub entries : (j s : ℕ) → j < n → s < 256 → new (256 * j + s) ≡ byte_sum (held old) j s
    pub rest : (i : ℕ) → 256 * n ≤ i → new i ≡ old i

  pub completed_more : (old new next : ℕ → Element k) (n : ℕ) → CompletedBelow old new n → Completed new next n → CompletedBelow old next (n + 1)
  completed_more old new next n b c = record {
    entries = λ j s h l. ⊎_elim
        (λ e. ap (λ i. next (256 * i + s)) e ∙ c.entry s l ∙ byte_same (held new) (held old) n s weights ∙ ap (λ i. byte_sum (held old) i s) (sym e))
        (λ ne. c.before (256 * j + s) (omega (arith, ne)) ∙ b.entries j s (omega (arith, ne)) l) (cases_eq j n);
    rest = λ i h. c.after i (omega arith) ∙ b.rest i (omega arith);
  }
    where
      weights : (u : ℕ) → u < 8 → held new (8 * n + u) ≡ held old (8 * n + u)
      weights u h = b.rest (lone (8 * n + u)) (omega (arith, lone_at n u h))

  -- The weights f of the coordinates below n are at their places.
  abbrev pub Placed : (ℕ → Element k) → (ℕ → Element k) → ℕ → Type 0
  Placed f tables n = (u : ℕ) → u < n → tables (lone u) ≡ f u

  pub placed_more : {X : Type 0} (means : X → Element k) (f : ℕ → Element k) (xs : List X) (n place : ℕ) (x : X) → place ≡ lone n → lone n < length xs
      → Placed f (lent means xs) n → means x ≡ f n → Placed f (lent means (set xs place x)) (n + 1)
  placed_more means f xs n place x at h p here u l =
      ap (λ i. lent means (set xs i x) (lone u)) at
      ∙ ⊎_elim (λ e. ap (λ v. lent means (set xs (lone n) x) (lone v)) e ∙ lent_written means xs (lone n) x h ∙ here ∙ ap f (sym e))
      (λ ne. lent_kept means xs (lone n) (lone u) x (lone_differs n u ne) ∙ p u (omega (arith, ne))) (cases_eq u n)

  -- tables are completed from the weights at their places
  pub placed_all : (f old new : ℕ → Element k) (n : ℕ) → n ≡ 8 * num_bytes k → Placed f old n → Tabulated (held old) new → Tabulated f new
  placed_all f old new n e p t = record {
    entry = λ j s h l. t.entry j s h l ∙ byte_same (held old) f j s (λ b b<8. p (8 * j + b) (omega arith));
  }
