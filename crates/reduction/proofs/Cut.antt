-- Parts of a stretch that was cut, and of one that was put together.
use Rattle.std.proofs.Common.{◌≡◌, ℕ, ◌+◌, ◌≤◌, List, ◌++◌, length, take, drop, sym, ap, ◌∙◌, arith, append_assoc, length-append}
use Rattle.std.proofs.lemmas.List.{drop_at, drop-take, take-take, take-append-le, take_all}
use Rattle.reduction.specs.Layout.{part}

-- a part of a start
pub part_of_start : {X : Type 0} (a n b : ℕ) (xs : List X) → a + n ≤ b → part a n (take b xs) ≡ part a n xs
part_of_start a n b xs h =
    sym (drop-take a n (take b xs)) ∙ ap (drop a) (take-take (a + n) b xs h) ∙ drop-take a n xs

module _ {X : Type 0} (a n : ℕ) (h : List X) (at : length h ≡ a) where
  -- the beginning of what stands behind a front
  pub first : (xs rest : List X) → n ≤ length xs → part a n (h ++ (xs ++ rest)) ≡ take n xs
  first xs rest r = ap (take n) (drop_at h (xs ++ rest) a at) ∙ take-append-le n xs rest r

-- the same behind two, and behind three
pub second : {X : Type 0} (a b n : ℕ) (h o xs rest : List X) → length h ≡ a → length o ≡ b → n ≤ length xs → part (a + b) n (h ++ (o ++ (xs ++ rest))) ≡ take n xs
second a b n h o xs rest ea eb r =
    ap (part (a + b) n) (sym (append_assoc h o (xs ++ rest))) ∙ first (a + b) n (h ++ o) (omega (arith, length-append h o, ea, eb)) xs rest r

pub third : {X : Type 0} (a b d n : ℕ) (h o i xs rest : List X) → length h ≡ a → length o ≡ b → length i ≡ d → n ≤ length xs
    → part (a + b + d) n (h ++ (o ++ (i ++ (xs ++ rest)))) ≡ take n xs
third a b d n h o i xs rest ea eb ed r =
    ap (part (a + b + d) n) (sym (append_assoc h o (i ++ (xs ++ rest)))) ∙ second (a + b) d n (h ++ o) i xs rest (omega (arith, length-append h o, ea, eb)) ed r

-- a part of what was cut off a stretch's front is a part of the stretch
pub held_part : {X : Type 0} (a n b i : ℕ) (xs held memory : List X) → xs ≡ part a n held → held ≡ take i memory → i ≡ b → a + n ≤ b → xs ≡ part a n memory
held_part a n b i xs held memory e front at within =
    e ∙ ap (part a n) (front ∙ ap (λ j. take j memory) at) ∙ part_of_start a n b memory within

-- a part of a start that is kept
pub part_kept : {X : Type 0} (a n b : ℕ) (xs ys : List X) → take b xs ≡ take b ys → a + n ≤ b → part a n xs ≡ part a n ys
part_kept a n b xs ys e h = sym (part_of_start a n b xs h) ∙ ap (part a n) e ∙ part_of_start a n b ys h

-- a start of a start that is kept
pub start_kept : {X : Type 0} (a b : ℕ) (xs ys : List X) → a ≤ b → take b xs ≡ take b ys → take a xs ≡ take a ys
start_kept a b xs ys h e = sym (take-take a b xs h) ∙ ap (take a) e ∙ take-take a b ys h

-- a whole part
pub whole : {X : Type 0} (a n : ℕ) (h xs rest : List X) → length h ≡ a → length xs ≡ n → part a n (h ++ (xs ++ rest)) ≡ xs
whole a n h xs rest at size = first a n h at xs rest (omega (arith, size)) ∙ take_all n xs (omega (arith, size))

pub second_whole : {X : Type 0} (a b n : ℕ) (h o xs rest : List X) → length h ≡ a → length o ≡ b → length xs ≡ n → part (a + b) n (h ++ (o ++ (xs ++ rest))) ≡ xs
second_whole a b n h o xs rest ea eb size = second a b n h o xs rest ea eb (omega (arith, size)) ∙ take_all n xs (omega (arith, size))

pub third_whole : {X : Type 0} (a b d n : ℕ) (h o i xs rest : List X) → length h ≡ a → length o ≡ b → length i ≡ d → length xs ≡ n
    → part (a + b + d) n (h ++ (o ++ (i ++ (xs ++ rest)))) ≡ xs
third_whole a b d n h o i xs rest ea eb ed size = third a b d n h o i xs rest ea eb ed (omega (arith, size)) ∙ take_all n xs (omega (arith, size))
