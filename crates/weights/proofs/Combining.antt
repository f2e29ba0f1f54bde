-- Settled weights combined in place, column by column.
use Rattle.std.proofs.Common.{◌≡◌, ℕ, ◌+◌, ◌-◌, ◌*◌, ◌/◌, ◌%◌, ◌^◌, ◌<◌, ◌≤◌, true, not, eqb, ◌≢◌, ◌⊎◌, inl, inr, List, length, set, take, drop, sym, refl, ap, ◌∙◌, ap₂, ⊎_elim, mul-le-mul_right, suc-mul, div-add-mod', add-one, arith, length-drop}
use borrow.Rule.Slice.PartMut.{put_mid}
use lib.Arith.{digits_mod}
use Rattle.std.proofs.lemmas.List.{length-take-le}
use Rattle.std.proofs.lemmas.Bool.{eq-eqb, ne_eqb, cases_eq, cases_lt}
use Rattle.level.specs.Element.{Element, plus}
use Rattle.level.specs.Laws.{Arithmetic}
use Rattle.level.proofs.Elements.{plus_zeros}
use Rattle.multilinear.specs.Columns.{starts, ends}
use Rattle.multilinear.specs.Lent.{lent}
use Rattle.multilinear.specs.Sums.{where_set}
use Rattle.multilinear.proofs.Lent.{lent_written, lent_kept}
use Rattle.multilinear.proofs.Places.{Written, before_part, in_part, past_part, of_part}
use Rattle.weights.specs.Stepped.{stepped_row, stepped}

module _ {k : ℕ} (A : Arithmetic k) where
  -- a row with the row before it times α, unless it is the first
  pub with_before : (α : Element k) (s : ℕ → Element k) (i : ℕ) (x b p y : Element k) → i ≢ 0 → x ≡ s i → b ≡ s (i - 1) → p ≡ A.times α b → y ≡ plus x p
      → y ≡ plus (s i) (where_set (not (eqb i 0)) (A.times α (s (i - 1))))
  unfolding where_set
  with_before α s i x b p y later own before product made =
      made ∙ ap₂ plus own (product ∙ ap (A.times α) before) ∙ sym (ap (λ c. plus (s i) (where_set (not c) (A.times α (s (i - 1))))) (ne_eqb i 0 later))

  pub without_before : (α : Element k) (s : ℕ → Element k) (i : ℕ) (x : Element k) → i ≡ 0 → x ≡ s i
      → x ≡ plus (s i) (where_set (not (eqb i 0)) (A.times α (s (i - 1))))
  unfolding where_set
  without_before α s i x first own =
      own ∙ sym (ap (λ c. plus (s i) (where_set (not c) (A.times α (s (i - 1))))) (eq-eqb i 0 first) ∙ plus_zeros (s i))

  -- and with itself times φ, if it is the last
  pub with_own : (n : ℕ) (α φ : Element k) (s : ℕ → Element k) (i : ℕ) (x v p y : Element k) → i ≡ n - 1 → x ≡ s i
      → v ≡ plus (s i) (where_set (not (eqb i 0)) (A.times α (s (i - 1)))) → p ≡ A.times φ x → y ≡ plus v p → y ≡ stepped_row A n α φ s i
  unfolding stepped_row where_set
  with_own n α φ s i x v p y last own carried product made =
      made ∙ ap₂ plus carried (product ∙ ap (A.times φ) own)
      ∙ sym (ap (λ c. plus (plus (s i) (where_set (not (eqb i 0)) (A.times α (s (i - 1))))) (where_set c (A.times φ (s i)))) (eq-eqb i (n - 1) last))

  pub without_own : (n : ℕ) (α φ : Element k) (s : ℕ → Element k) (i : ℕ) (v : Element k) → i ≢ n - 1
      → v ≡ plus (s i) (where_set (not (eqb i 0)) (A.times α (s (i - 1)))) → v ≡ stepped_row A n α φ s i
  unfolding stepped_row where_set
  without_own n α φ s i v other carried =
      carried ∙ sym (ap (λ c. plus (plus (s i) (where_set (not (eqb i 0)) (A.times α (s (i - 1))))) (where_set c (A.times φ (s i)))) (ne_eqb i (n - 1) other) ∙ plus_zeros _)

  -- a row reads itself and the row before it
  pub row_reads : (n : ℕ) (α φ : Element k) (s t : ℕ → Element k) (i : ℕ) → s i ≡ t i → s (i - 1) ≡ t (i - 1) → stepped_row A n α φ s i ≡ stepped_row A n α φ t i
  unfolding stepped_row
  row_reads n α φ s t i own before =
      ap₂ (λ x b. plus (plus x (where_set (not (eqb i 0)) (A.times α b))) (where_set (eqb i (n - 1)) (A.times φ x))) own before

  -- a row of a column is the entry of its place in a table
  pub row_stepped : (r c : ℕ) (α φ : Element k) (s column : ℕ → Element k) (i : ℕ) → φ ≡ A.times α α → i < 2 ^ r
      → ((j : ℕ) → j < 2 ^ r → column j ≡ s (c * 2 ^ r + j))
      → stepped_row A (2 ^ r) α φ column i ≡ stepped A r α s (c * 2 ^ r + i)
  unfolding stepped_row stepped where_set
  row_stepped r c α φ s column i square inside part = by (cases_eq i 0)
    where
      place : (c * 2 ^ r + i) % 2 ^ r ≡ i
      place = digits_mod c inside

      own : column i ≡ s (c * 2 ^ r + i)
      own = part i inside

      ended : where_set (eqb i (2 ^ r - 1)) (A.times φ (column i)) ≡ where_set (ends r (c * 2 ^ r + i)) (A.times (A.times α α) (s (c * 2 ^ r + i)))
      ended = ap₂ (λ j x. where_set (eqb j (2 ^ r - 1)) x) (sym place) (ap₂ A.times square own)

      by : (i ≡ 0) ⊎ (i ≢ 0) → stepped_row A (2 ^ r) α φ column i ≡ stepped A r α s (c * 2 ^ r + i)
      by (inl first) =
          let e : eqb i 0 ≡ true = eq-eqb i 0 first in
          let f : starts r (c * 2 ^ r + i) ≡ true = ap (λ j. eqb j 0) place ∙ e in
          ap₂ plus (ap₂ plus own (ap (λ b. where_set (not b) (A.times α (column (i - 1)))) e ∙ sym (ap (λ b. where_set (not b) (A.times α (s (c * 2 ^ r + i - 1)))) f))) ended
      by (inr later) =
          let back : c * 2 ^ r + (i - 1) ≡ c * 2 ^ r + i - 1 = omega arith in
          ap₂ plus (ap₂ plus own (ap₂ (λ j x. where_set (not (eqb j 0)) (A.times α x)) (sym place) (part (i - 1) (omega arith) ∙ ap s back))) ended

module _ {X : Type 0} {k : ℕ} (means : X → Element k) (A : Arithmetic k) where
  -- the rows of a column combined from the last down to i
  pub record Combined (α φ : Element k) (old new : List X) (i : ℕ) : Type 0 where
    pub below : (j : ℕ) → j < i → lent means new j ≡ lent means old j
    pub done : (j : ℕ) → i ≤ j → j < length old → lent means new j ≡ stepped_row A (length old) α φ (lent means old) j

  pub combined_none : (α φ : Element k) (xs : List X) → Combined α φ xs xs (length xs)
  combined_none α φ xs = record { below = λ j l. refl; done = λ j l h. absurd (omega arith) }

  -- one row more: what it is made from is still as it was
  pub combined_more : (α φ : Element k) (xs zs : List X) (i : ℕ) (y : X) → 0 < i → i ≤ length zs → length zs ≡ length xs
      → means y ≡ stepped_row A (length zs) α φ (lent means zs) (i - 1) → Combined α φ xs zs i → Combined α φ xs (set zs (i - 1) y) (i - 1)
  combined_more α φ xs zs i y some room size made w =
      let here : i - 1 < length zs = omega arith in
      let same : stepped_row A (length zs) α φ (lent means zs) (i - 1) ≡ stepped_row A (length xs) α φ (lent means xs) (i - 1) =
      ap (λ n. stepped_row A n α φ (lent means zs) (i - 1)) size
      ∙ row_reads A (length xs) α φ (lent means zs) (lent means xs) (i - 1) (w.below (i - 1) (omega arith)) (w.below (i - 1 - 1) (omega arith)) in
      record {
        below = λ j l. let ne : j ≢ i - 1 = omega arith in lent_kept means zs (i - 1) j y ne ∙ w.below j (omega arith);
        done = λ j l h. ⊎_elim
            (λ e. ap (lent means (set zs (i - 1) y)) e ∙ lent_written means zs (i - 1) y here ∙ made ∙ same
            ∙ ap (stepped_row A (length xs) α φ (lent means xs)) (sym e))
            (λ ne. lent_kept means zs (i - 1) j y ne ∙ w.done j (omega (arith, ne)) h)
            (cases_eq j (i - 1));
      }

  -- one column more
  pub column_more : (r c start n : ℕ) (α φ : Element k) (xs ys column : List X) → start ≡ c * 2 ^ r → n ≡ 2 ^ r → φ ≡ A.times α α → c < length xs / 2 ^ r
      → length ys ≡ length xs → length column ≡ length (take n (drop start ys))
      → ((i : ℕ) → i < length (take n (drop start ys)) → lent means column i ≡ stepped_row A (length (take n (drop start ys))) α φ (lent means (take n (drop start ys))) i)
      → Written means (stepped A r α (lent means xs)) xs ys (c * 2 ^ r) → Written means (stepped A r α (lent means xs)) xs (put_mid start n ys column) ((c + 1) * 2 ^ r)
  column_more r c start n α φ xs ys column begins size square place kept long rows w =
      let next : (c + 1) * 2 ^ r ≡ c * 2 ^ r + 2 ^ r = ap (λ i. i * 2 ^ r) (add-one c) ∙ suc-mul c (2 ^ r) in
      let fill : (c + 1) * 2 ^ r ≤ length xs / 2 ^ r * 2 ^ r = mul-le-mul_right (2 ^ r) (omega arith) in
      let whole : length xs / 2 ^ r * 2 ^ r + length xs % 2 ^ r ≡ length xs = div-add-mod' (length xs) (2 ^ r) in
      let room : start ≤ length ys = omega arith in
      let full : length (take n (drop start ys)) ≡ n = length-take-le n (drop start ys) (simp length-drop (omega arith)) in
      let filled : length (take n (drop start ys)) ≡ 2 ^ r = full ∙ size in
      record {
        done = λ j h. ⊎_elim
            (λ l. before_part means start n ys column j (omega arith) room ∙ w.done j l)
            (λ l.
            let i = j - start in
            let inside : i < 2 ^ r = omega arith in
            let at : start + i ≡ j = omega arith in
            let at' : c * 2 ^ r + i ≡ j = omega arith in
            ap (lent means (put_mid start n ys column)) (sym at) ∙ in_part means start n ys column i (omega arith) room ∙ rows i (omega arith)
            ∙ ap (λ m. stepped_row A m α φ (lent means (take n (drop start ys))) i) filled
            ∙ row_stepped A r c α φ (lent means xs) (lent means (take n (drop start ys))) i square inside
            (λ v b. of_part means start n ys v (omega arith) ∙ w.rest (start + v) (omega arith) ∙ ap (λ a. lent means xs (a + v)) begins)
            ∙ ap (stepped A r α (lent means xs)) at')
            (cases_lt j (c * 2 ^ r));
        rest = λ j h. past_part means start n ys column j (omega arith) (omega arith) room ∙ w.rest j (omega arith);
      }

  -- and all of them, where the columns fill the table
  pub columns_all : (r c : ℕ) (f : ℕ → Element k) (xs zs : List X) → length xs % 2 ^ r ≡ 0 → length xs / 2 ^ r ≤ c
      → Written means f xs zs (c * 2 ^ r) → (j : ℕ) → j < length xs → lent means zs j ≡ f j
  columns_all r c f xs zs none all w j h =
      let whole : length xs / 2 ^ r * 2 ^ r + length xs % 2 ^ r ≡ length xs = div-add-mod' (length xs) (2 ^ r) in
      let fill : length xs / 2 ^ r * 2 ^ r ≤ c * 2 ^ r = mul-le-mul_right (2 ^ r) all in
      w.done j (omega arith)
