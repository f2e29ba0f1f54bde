-- Lent slices place by place: what is read there, what a write leaves, and two slices joined.
use Rattle.std.proofs.Common.{◌≡◌, ℕ, ◌-◌, ◌<◌, ◌≤◌, ◌≢◌, List, ◌++◌, map, length, get_or, set, sym, ap, ◌∙◌}
use Rattle.std.proofs.lemmas.List.{get_or-map, map-set, get_or-set_same, get_or-set_other, length-set, length-map, get_or_past, get_or_append_left, get_or-append_right, map-append}
use Rattle.level.specs.Element.{Element, zeros}
use Rattle.multilinear.specs.Lent.{lent}

module _ {X : Type 0} {k : ℕ} (means : X → Element k) where
  -- the meaning of what was read at a place
  pub lent_read : (xs : List X) (i : ℕ) (x : X) → i < length xs → x ≡ get_or xs i x → means x ≡ lent means xs i
  lent_read xs i x h e = ap means e ∙ sym (get_or-map means xs i x (zeros k) h)

  -- the place that was written
  pub lent_written : (xs : List X) (i : ℕ) (x : X) → i < length xs → lent means (set xs i x) i ≡ means x
  lent_written xs i x h =
      let l : i < length (set xs i x) = rw length-set h in
      get_or-map means (set xs i x) i x (zeros k) l ∙ ap means (get_or-set_same xs i x x h)

  -- every other place
  pub lent_kept : (xs : List X) (i j : ℕ) (x : X) → j ≢ i → lent means (set xs i x) j ≡ lent means xs j
  lent_kept xs i j x ne = ap (λ ys. get_or ys j (zeros k)) (map-set means xs i x) ∙ get_or-set_other (map means xs) i j (means x) (zeros k) ne

  -- past its end a lent slice is zero
  pub lent_past : (xs : List X) (i : ℕ) → length xs ≤ i → lent means xs i ≡ zeros k
  lent_past xs i h = get_or_past (map means xs) i (zeros k) (rw length-map h)

  -- two slices joined: the first, and the second from place n on
  pub lent_front : (xs ys : List X) (i : ℕ) → i < length xs → lent means (xs ++ ys) i ≡ lent means xs i
  lent_front xs ys i h =
      let inside : i < length (map means xs) = rw length-map h in
      ap (λ zs. get_or zs i (zeros k)) (map-append means xs ys) ∙ get_or_append_left (map means xs) (map means ys) (zeros k) i inside

  pub lent_back : (xs ys : List X) (n i : ℕ) → length xs ≡ n → n ≤ i → lent means (xs ++ ys) i ≡ lent means ys (i - n)
  lent_back xs ys n i size h =
      let same : length (map means xs) ≡ n = rw length-map size in
      ap (λ zs. get_or zs i (zeros k)) (map-append means xs ys) ∙ get_or-append_right (map means xs) (map means ys) n i (zeros k) same h
