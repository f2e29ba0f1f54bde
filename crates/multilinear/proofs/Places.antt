-- Parts of a lent slice, and a loop over one that writes one place after another.
use Rattle.std.proofs.Common.{◌≡◌, ℕ, ◌+◌, ◌<◌, ◌≤◌, ◌≢◌, List, map, length, get_or, take, drop, set, sym, refl, ap, ◌∙◌, ⊎_elim, arith, rules, below_more}
use borrow.Rule.Slice.PartMut.{put_mid}
use mathlib.Core.Path.{fun_ext}
use Rattle.std.proofs.lemmas.List.{length-map, get_or-map, map-append, take-map, drop-map, get_or-take, get_or-drop, places}
use Rattle.std.proofs.lemmas.Bool.{cases_eq, cases_lt}
use Rattle.level.specs.Element.{Element, zeros}
use Rattle.multilinear.specs.Lent.{lent}
use Rattle.multilinear.proofs.Lent.{lent_written, lent_kept, lent_past}

module _ {X : Type 0} {k : ℕ} (means : X → Element k) where
  -- after a write to a part of the slice: before it, in it and past it
  put_parts : (a n : ℕ) (xs ys : List X) → map means (put_mid a n xs ys) ≡ put_mid a n (map means xs) (map means ys)
  put_parts a n xs ys = simp (map-append, take-map, drop-map)

  pub before_part : (a n : ℕ) (xs ys : List X) (u : ℕ) → u < a → a ≤ length xs → lent means (put_mid a n xs ys) u ≡ lent means xs u
  before_part a n xs ys u h room =
      let fits : a ≤ length (map means xs) = rw length-map room in
      ap (λ zs. get_or zs u (zeros k)) (put_parts a n xs ys) ∙ search (rules, places)

  pub in_part : (a n : ℕ) (xs ys : List X) (j : ℕ) → j < length ys → a ≤ length xs → lent means (put_mid a n xs ys) (a + j) ≡ lent means ys j
  in_part a n xs ys j h room =
      let fits : a ≤ length (map means xs) = rw length-map room in
      let inside : j < length (map means ys) = rw length-map h in
      ap (λ zs. get_or zs (a + j) (zeros k)) (put_parts a n xs ys) ∙ search (rules, places)

  pub past_part : (a n : ℕ) (xs ys : List X) (u : ℕ) → a + n ≤ u → length ys ≡ n → a ≤ length xs → lent means (put_mid a n xs ys) u ≡ lent means xs u
  past_part a n xs ys u h long room =
      let fits : a ≤ length (map means xs) = rw length-map room in
      let same : length (map means ys) ≡ n = rw length-map long in
      ap (λ zs. get_or zs u (zeros k)) (put_parts a n xs ys) ∙ search (rules, places)

  -- a part as it is read
  pub of_part : (a n : ℕ) (xs : List X) (j : ℕ) → j < n → lent means (take n (drop a xs)) j ≡ lent means xs (a + j)
  of_part a n xs j h =
      ap (λ zs. get_or zs j (zeros k)) (simp (take-map, drop-map)) ∙ get_or-take n (drop a (map means xs)) j (zeros k) h ∙ get_or-drop a (map means xs) j (zeros k)

  -- one place more, where the places below are all that is asked of
  pub filled_more : (f : ℕ → Element k) (xs : List X) (done : ℕ) (x : X) → done < length xs → means x ≡ f done
      → ((i : ℕ) → i < done → lent means xs i ≡ f i) → (i : ℕ) → i < done + 1 → lent means (set xs done x) i ≡ f i
  filled_more f xs done x h e below = below_more _ done (λ i l. lent_kept means xs done i x (omega arith) ∙ below i l) (lent_written means xs done x h ∙ e)

  -- the places below i hold what f has there, the others what they held
  pub record Written (f : ℕ → Element k) (old new : List X) (i : ℕ) : Type 0 where
    pub done : (j : ℕ) → j < i → lent means new j ≡ f j
    pub rest : (j : ℕ) → i ≤ j → lent means new j ≡ lent means old j

  pub written_none : (f : ℕ → Element k) (xs : List X) → Written f xs xs 0
  written_none f xs = record { done = λ j h. absurd (omega arith); rest = λ j h. refl }

  -- what is read at the next place
  pub written_read : (f : ℕ → Element k) (xs zs : List X) (i : ℕ) (d : X) → i < length zs → Written f xs zs i
      → means (get_or zs i d) ≡ lent means xs i
  written_read f xs zs i d h w = sym (get_or-map means zs i d (zeros k) h) ∙ w.rest i (omega arith)

  -- one place more
  pub written_more : (f : ℕ → Element k) (xs zs : List X) (i : ℕ) (y : X) → i < length zs → means y ≡ f i → Written f xs zs i
      → Written f xs (set zs i y) (i + 1)
  written_more f xs zs i y h e w = record {
    done = λ j l. ⊎_elim
        (λ s. ap (lent means (set zs i y)) s ∙ lent_written means zs i y h ∙ e ∙ ap f (sym s))
        (λ ne. lent_kept means zs i j y ne ∙ w.done j (omega (arith, ne)))
        (cases_eq j i);
    rest = λ j l. let ne : j ≢ i = omega arith in lent_kept means zs i j y ne ∙ w.rest j (omega arith);
  }

  -- all of them, where f is zero past the end
  pub written_all : (f : ℕ → Element k) (xs zs : List X) (i : ℕ) → length xs ≤ i → ((j : ℕ) → length xs ≤ j → f j ≡ zeros k)
      → Written f xs zs i → lent means zs ≡ f
  written_all f xs zs i h past w =
      fun_ext (λ j. ⊎_elim (w.done j) (λ l. w.rest j l ∙ lent_past means xs j (omega arith) ∙ sym (past j (omega arith))) (cases_lt j i))
