-- Tables held as two factors.
use Rattle.std.proofs.Common.{◌≡◌, ℕ, ◌+◌, ◌-◌, ◌*◌, ◌/◌, ◌%◌, ◌^◌, ◌<◌, List, map, length, take, drop, sym, ap, ◌∙◌, subst, ap₂, subst₂, ⊎_elim, arith, w64, length-append, take-append-drop, pow_pos, pow-add}
use lib.Arith.{mul_pred, digits_div, digits_mod}
use lib.ListN.{length-map}
use lib.Count.{count_trailing_zeros}
use Rattle.std.specs.Int.{bit_at}
use Rattle.std.proofs.lemmas.Bool.{cases_eq}
use Rattle.std.proofs.lemmas.Nat.{div_below, mod_below}
use Rattle.std.proofs.lemmas.Nat.Bits.{bit_at-trailing_zeros, bit_at-pow_other}
use Rattle.std.proofs.lemmas.List.{take-map, drop-map}
use Rattle.level.specs.Element.{Element}
use Rattle.level.specs.Laws.{Arithmetic, Laws}
use Rattle.multilinear.specs.Equality.{Point, entry, outer, inner, inner_count}
use Rattle.multilinear.specs.Lent.{lent}
use Rattle.multilinear.proofs.Entries.{factored as factors}
use Rattle.equality.specs.Tables.{Tabulated, Factors, factored, entries_of}

module _ {X : Type 0} {k : ℕ} (means : X → Element k) (A : Arithmetic k) where
  -- the two parts of a point, by what they mean
  pub factors_written : (point first last : List X) (start one : Element k) (outers inners : List X)
      → first ≡ take (length point - inner_count (length point)) point → last ≡ drop (length point - inner_count (length point)) point
      → one ≡ A.unit → Tabulated means A one (map means first) outers → Tabulated means A start (map means last) inners
      → Factors means A start (map means point) outers inners
  factors_written point first last start one outers inners a b u o i =
      let n = length point - inner_count (length point) in
      let same : n ≡ length (map means point) - inner_count (length (map means point)) = ap (λ l. l - inner_count l) (sym (length-map point means)) in
      let p : map means first ≡ outer (map means point) = ap (map means) a ∙ sym (take-map means n point) ∙ ap (λ j. take j (map means point)) same in
      let q : map means last ≡ inner (map means point) = ap (map means) b ∙ sym (drop-map means n point) ∙ ap (λ j. drop j (map means point)) same in
      record {
        outer_table = subst₂ (λ s r. Tabulated means A s r outers) u p o;
        inner_table = subst (λ r. Tabulated means A start r inners) q i;
      }

module _ {X : Type 0} {k : ℕ} (means : X → Element k) (A : Arithmetic k) (outers inners : List X) where
  -- the entry at a place of a block
  pub entry_in_block : (block place : ℕ) → place < length inners
      → entries_of means A outers inners (block * length inners + place) ≡ A.times (lent means outers block) (lent means inners place)
  unfolding factored
  entry_in_block block place h = ap₂ (λ b j. A.times (lent means outers b) (lent means inners j)) (digits_div block h) (digits_mod block h)

  -- the last entry before a block begins
  pub entry_before : (index : ℕ) → 0 < length inners → 0 < index
      → entries_of means A outers inners (index * length inners - 1) ≡ A.times (lent means outers (index - 1)) (lent means inners (length inners - 1))
  entry_before index pos later =
      ap (entries_of means A outers inners) (mul_pred later pos) ∙ entry_in_block (index - 1) (length inners - 1) (omega arith)

-- Where the slices are the factors of a point, the entries are those of its equality table.
pub entries_are : {X : Type 0} {k : ℕ} (means : X → Element k) {A : Arithmetic k} → Laws A → (s : Element k) (p : Point k) (outers inners : List X)
    → Factors means A s p outers inners → (i : ℕ) → i < 2 ^ length p → entries_of means A outers inners i ≡ entry A s p i
unfolding factored
entries_are means {A = A} laws s p outers inners f i h =
    let m = length (outer p) in
    let n = length (inner p) in
    let size = f.inner_table.size in
    let whole : length p ≡ m + n = sym (ap length (take-append-drop (length p - inner_count (length p)) p)) ∙ length-append (outer p) (inner p) in
    let block : i / 2 ^ n < 2 ^ m = div_below i (2 ^ n) (2 ^ m) (pow_pos n) (omega (arith, ap (λ l. 2 ^ l) whole, pow-add 2 m n)) in
    ap₂ A.times
    (ap (λ l. lent means outers (i / l)) size ∙ f.outer_table.entries (i / 2 ^ n) block)
    (ap (λ l. lent means inners (i % l)) size ∙ f.inner_table.entries (i % 2 ^ n) (mod_below i (2 ^ n) (pow_pos n)))
    ∙ sym ((factors laws).factored s p i)

-- A power of two that fits a machine word is two to the place of its lowest binary digit that is 1.
pub log_of_power : (n e : ℕ) → n ≡ 2 ^ e → n < 2 ^ 64 → (count_trailing_zeros 64 n < 64) × (n ≡ 2 ^ count_trailing_zeros 64 n)
log_of_power n e power fits =
    let lowest = bit_at-trailing_zeros w64 n (omega (arith, power, pow_pos e)) fits in
    let t = count_trailing_zeros 64 n in (
      lowest.0,
      power ∙ ap (λ i. 2 ^ i) (⊎_elim (λ q. sym q)
          (λ ne. absurd (omega (arith, lowest.1, ap (λ m. bit_at m t) power, bit_at-pow_other e t ne)))
          (cases_eq t e)),
    )
