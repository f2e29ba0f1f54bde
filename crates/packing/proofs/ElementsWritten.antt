-- Packed elements written one after another, and the levels at which bytes are packed.
use Rattle.std.proofs.Common.{◌++◌, take, inl, inr, add-mul, one-mul, length-append, length-drop, drop_at, ◌≡◌, ℕ, ◌+◌, ◌*◌, ◌/◌, ◌^◌, ◌<◌, ◌≤◌, Bool, true, false, cond, ltb, List, length, drop, set, Some, None, Option, sym, refl, ap, ◌∙◌, ⊎_elim, arith, below_more}
use lib.Pow.{pow-lt}
use Rattle.std.proofs.Math.Nat.{le-div_iff_mul-le}
use Rattle.std.proofs.lemmas.List.{drop-drop, drop-set-lt, take_at}
use Rattle.std.proofs.lemmas.Bool.{ltb-false, cases_lt}
use Rattle.level.specs.Element.{Element}
use Rattle.multilinear.specs.Cells.{cell, packed}
use Rattle.multilinear.proofs.Lent.{lent_written, lent_kept}
use Rattle.refusals.specs.Steps.{packing}
use Rattle.packing.specs.Packing.{Packed}

-- chunk w of some bytes, before what is left
module _ (bytes chunk rest : List ℕ) (w len : ℕ) (parts : drop (w * len) bytes ≡ chunk ++ rest) (size : length chunk ≡ len) where
  pub chunk_is : chunk ≡ take len (drop (w * len) bytes)
  chunk_is = sym (ap (take len) parts ∙ take_at chunk rest len size)

  pub rest_is : rest ≡ drop ((w + 1) * len) bytes
  rest_is =
      let place : w * len + len ≡ (w + 1) * len = sym (add-mul w 1 len ∙ ap (λ n. w * len + n) (one-mul len)) in
      sym (ap (λ n. drop n bytes) (sym place) ∙ sym (drop-drop len (w * len) bytes) ∙ ap (drop len) parts ∙ drop_at chunk rest len size)

  pub chunk_within : 0 < len → (w + 1) * len ≤ length bytes
  chunk_within pos = omega (arith, ap length parts, length-append chunk rest, length-drop (w * len) bytes, add-mul w 1 len)

  pub chunk_counted : 0 < len → w < length bytes / len
  chunk_counted pos = let fits : w + 1 ≤ length bytes / len = (le-div_iff_mul-le pos).1 (chunk_within pos) in omega arith

-- no chunk is left
pub chunks_counted : (bytes : List ℕ) (w len : ℕ) → 0 < len → w ≤ length bytes / len → length (drop (w * len) bytes) < len → w ≡ length bytes / len
chunks_counted bytes w len pos few h =
    ⊎_elim (λ e. e) (λ l. absurd (omega (arith, (le-div_iff_mul-le {k = len} {x = w + 1} {y = length bytes} pos).0 (omega arith), length-drop (w * len) bytes, add-mul w 1 len)))
    (⊎_elim (λ l. inr l) (λ g. inl (omega arith)) (cases_lt w (length bytes / len)))

-- one element more
pub packed_more : {X : Type 0} {k : ℕ} (means : X → Element k) (bytes : List ℕ) (w : ℕ) (before xs : List X) (x : X) → w < length xs
    → means x ≡ packed k (cell bytes) w → Packed means bytes w before xs → Packed means bytes (w + 1) before (set xs w x)
packed_more means bytes w before xs x h e p = record {
  elements = below_more _ w (λ i l. lent_kept means xs w i x (omega arith) ∙ p.elements i l) (lent_written means xs w x h ∙ e);
  rest = drop-set-lt (w + 1) xs w x (omega arith) ∙ sym (drop-drop 1 w xs) ∙ ap (drop 1) p.rest ∙ drop-drop 1 w before;
}

-- a test that is passed
passed : {R : Type 0} (test : Bool) (r : R) (o : Option R) → None ≡ cond test (Some r) o → (test ≡ false) × (None ≡ o)
passed true r o e = let z : ◌≡◌ {A = ℕ} 0 1 = cc in absurd (omega arith)
passed false r o e = (refl, e)

-- bytes are packed at levels of whole bytes, up to sixteen of them
pub levels_packed : (k n : ℕ) → None ≡ packing k n → (3 ≤ k) × (k ≤ 7)
levels_packed k n e =
    let narrow = passed (ltb 7 k) _ _ e in
    let whole = passed (ltb (2 ^ k) 8) _ _ narrow.1 in
    let wide : 8 ≤ 2 ^ k = ltb-false (2 ^ k) 8 whole.0 in
    (⊎_elim (λ l. absurd (omega (arith, pow-lt l))) (λ l. l) (cases_lt k 3), ltb-false 7 k narrow.0)
