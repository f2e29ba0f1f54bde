-- A rest of a line by its places, and by its two operands.
use Rattle.std.proofs.Common.{◌≡◌, ℕ, ◌+◌, ◌*◌, ◌<◌, true, List, ◌∷◌, ◌++◌, length, get_or, take, drop, sym, ap, ◌∙◌, ap₂, arith}
use Rattle.std.proofs.lemmas.Bool.Decides.{nat_tests}
use Rattle.std.proofs.lemmas.List.{take-append-drop, drop_more, length-append, length-take-le, length-drop, take_all, get_or_at, drop-drop}
use Rattle.product_line.specs.Lines.{Operands, shaped}

pub places : (n : ℕ) (rest : List ℕ) → shaped n rest ≡ true → (length rest ≡ 2 * n + 2) × (get_or rest 0 0 ≡ 32) × (get_or rest (n + 1) 0 ≡ 32)
places n rest e = grind (arith, nat_tests)

pub by_places : (n : ℕ) (rest : List ℕ) → length rest ≡ 2 * n + 2 → get_or rest 0 0 ≡ 32 → get_or rest (n + 1) 0 ≡ 32 → shaped n rest ≡ true
by_places n rest a b c = grind (arith, nat_tests)

pub operands_shaped : (n : ℕ) (rest left right : List ℕ) → Operands n rest left right → shaped n rest ≡ true
operands_shaped n rest left right o =
    by_places n rest
    (ap length o.rest_is ∙ omega (arith, length-append left (32 ∷ right), o.left_length, o.right_length))
    (ap (λ r. get_or r 0 0) o.rest_is)
    (ap (λ r. get_or r (n + 1) 0) o.rest_is ∙ get_or_at (32 ∷ left) 32 right 0 (n + 1) (omega (arith, o.left_length)))

pub shaped_operands : (n : ℕ) (rest : List ℕ) → shaped n rest ≡ true → Operands n rest (take n (drop 1 rest)) (take n (drop (n + 2) rest))
shaped_operands n rest e =
    let p = places n rest e in
    let one : 0 < length rest = omega (arith, p.0) in
    let mid : n + 1 < length rest = omega (arith, p.0) in
    let s : 1 + n ≡ n + 1 = omega arith in
    let t : (n + 1) + 1 ≡ n + 2 = omega arith in
    let tail : take n (drop (n + 2) rest) ≡ drop (n + 2) rest = take_all n (drop (n + 2) rest) (omega (arith, length-drop (n + 2) rest, p.0)) in
    let middle : drop n (drop 1 rest) ≡ 32 ∷ drop (n + 2) rest =
    drop-drop n 1 rest ∙ ap (λ i. drop i rest) s ∙ drop_more rest (n + 1) 0 mid ∙ ap₂ (λ (x : ℕ) (l : List ℕ). x ∷ l) p.2 (ap (λ i. drop i rest) t) in
    record {
      rest_is = drop_more rest 0 0 one ∙ ap₂ (λ (x : ℕ) (l : List ℕ). x ∷ l) p.1
          (sym (take-append-drop n (drop 1 rest)) ∙ ap (λ l. take n (drop 1 rest) ++ l) (middle ∙ ap (λ l. 32 ∷ l) (sym tail)));
      left_length = length-take-le n (drop 1 rest) (omega (arith, length-drop 1 rest, p.0));
      right_length = length-take-le n (drop (n + 2) rest) (omega (arith, length-drop (n + 2) rest, p.0));
    }
