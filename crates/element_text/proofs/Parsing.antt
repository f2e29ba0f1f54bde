-- A text read byte by byte.
use Rattle.std.proofs.Common.{◌≡◌, ℕ, zero, suc, ◌+◌, ◌-◌, ◌*◌, ◌/◌, ◌%◌, ◌<◌, ◌≤◌, List, [], ◌∷◌, ◌++◌, length, get_or, take, drop, set, replicate, sym, refl, ap, ◌∙◌, subst, ap₂, arith}
use native.Mathlib.Decide.{dec_lt}
use native.Mathlib.Nat.{sub-zero}
use Rattle.std.proofs.lemmas.List.{take_more, append_assoc, take_all, length-take-le, length-set, get_or-take, take-append-drop, drop-set-lt, take_more_set, drop-replicate, drop-drop, length-replicate, take-replicate, length-append, take_at, drop_at}
use Rattle.level.specs.Element.{Element, cut}
use Rattle.level.specs.Bytes.{Octets, le_number, from_sixteen}
use Rattle.element_text.specs.Hex.{hex, shown_bytes, NoDigit, IsDigit, Parsed, Broken, Pair, Writes}
use Rattle.element_text.proofs.Hexes.{hex_append}

-- each character of the text of bytes is a digit
pub hex_digits : (bs : List ℕ) → Octets bs → (i : ℕ) → i < 2 * length bs → IsDigit (get_or (hex bs) i 0)
unfolding hex
hex_digits [] o i h = absurd (omega arith)
hex_digits (b ∷ bs) o zero h = (b / 16, omega (arith, o 0), refl)
hex_digits (b ∷ bs) o (suc zero) h = (b % 16, omega arith, refl)
hex_digits (b ∷ bs) o (suc (suc i)) h = hex_digits bs (λ j. o (suc j)) i (omega arith)

take_two : (xs : List ℕ) (i : ℕ) → i + 1 < length xs → take (i + 2) xs ≡ take i xs ++ (get_or xs i 0 ∷ get_or xs (i + 1) 0 ∷ [])
take_two xs i h =
    let e : i + 2 ≡ (i + 1) + 1 = omega arith in
    ap (λ n. take n xs) e ∙ take_more xs (i + 1) 0 h ∙ ap (λ t. t ++ (get_or xs (i + 1) 0 ∷ [])) (take_more xs i 0 (omega arith))
    ∙ append_assoc (take i xs) (get_or xs i 0 ∷ []) (get_or xs (i + 1) 0 ∷ [])

octets_set : (bs : List ℕ) (j b : ℕ) → Octets bs → b < 256 → Octets (set bs j b)
octets_set [] j b o h i = o i
octets_set (x ∷ bs) zero b o h zero = h
octets_set (x ∷ bs) zero b o h (suc i) = o (suc i)
octets_set (x ∷ bs) (suc j) b o h zero = o 0
octets_set (x ∷ bs) (suc j) b o h (suc i) = octets_set bs j b (λ n. o (suc n)) h i

octets_take : (n : ℕ) (bs : List ℕ) → Octets bs → Octets (take n bs)
octets_take zero bs o i = omega arith
octets_take (suc n) [] o i = omega arith
octets_take (suc n) (b ∷ bs) o zero = o 0
octets_take (suc n) (b ∷ bs) o (suc i) = octets_take n bs (λ j. o (suc j)) i

-- one more byte of the text
pub hex_next : (text bs : List ℕ) (j b : ℕ) → 2 * j + 1 < length text → take (2 * j) text ≡ hex bs → Pair text j b → take (2 * (j + 1)) text ≡ hex (bs ++ (b ∷ []))
unfolding hex
hex_next text bs j b h e q =
    let next : 2 * (j + 1) ≡ 2 * j + 2 = omega arith in
    ap (λ n. take n text) next ∙ take_two text (2 * j) h
    ∙ ap₂ (λ (t u : List ℕ). t ++ u) e (ap₂ (λ (x y : ℕ). x ∷ y ∷ []) q.high q.low)
    ∙ sym (hex_append bs (b ∷ []))

-- n bytes: those that the first 2·j characters of a text write, and zeroes after them
pub record ParsedIn (n j : ℕ) (text bs : List ℕ) : Type 0 where
  pub length_is : length bs ≡ n
  pub octets : Octets bs
  pub text_is : take (2 * j) text ≡ hex (take j bs)
  pub padded : drop j bs ≡ replicate (n - j) 0

pub parsed_more : (n : ℕ) (text bs : List ℕ) (j b : ℕ) → 2 * j + 1 < length text → j < n → b < 256 → ParsedIn n j text bs → Pair text j b → ParsedIn n (j + 1) text (set bs j b)
parsed_more n text bs j b h l small p q =
    let inside : j < length bs = omega (arith, p.length_is) in
    let rest : (n - j) - 1 ≡ n - (j + 1) = omega arith in
    let shorter : j < j + 1 = omega arith in
    record {
      length_is = length-set bs j b ∙ p.length_is;
      octets = octets_set bs j b p.octets small;
      text_is = hex_next text (take j bs) j b h p.text_is q ∙ sym (ap hex (take_more_set bs j b inside));
      padded = drop-set-lt (j + 1) bs j b shorter ∙ sym (drop-drop 1 j bs) ∙ ap (drop 1) p.padded ∙ drop-replicate 1 (n - j) 0 ∙ ap (λ m. replicate m 0) rest;
    }

-- the first character that is no digit, where the bytes before it were read
pub broken_at : (text bs : List ℕ) (j at : ℕ) → length bs ≡ j → Octets bs → take (2 * j) text ≡ hex bs → at < 2 * j + 2 → 2 * j ≤ at
    → NoDigit (get_or text at 0) → (2 * j < at → IsDigit (get_or text (2 * j) 0)) → Broken text at
broken_at text bs j at len octets text_is below above none first =
    record { no_digit = none; before = λ i hi. place i hi (dec_lt i (2 * j)) }
  where
    place : (i : ℕ) → i < at → Dec (i < 2 * j) → IsDigit (get_or text i 0)
    place i hi (yes early) =
        let e : get_or (hex bs) i 0 ≡ get_or text i 0 = sym (ap (λ t. get_or t i 0) text_is) ∙ get_or-take (2 * j) text i 0 early in
        subst IsDigit e (hex_digits bs octets i (omega arith))
    place i hi (no late) =
        let e : 2 * j ≡ i = omega arith in
        subst (λ (n : ℕ). IsDigit (get_or text n 0)) e (first (omega arith))

pub broken : (n : ℕ) (text bs : List ℕ) (j at : ℕ) → ParsedIn n j text bs → j < n → at < 2 * j + 2 → 2 * j ≤ at
    → NoDigit (get_or text at 0) → (2 * j < at → IsDigit (get_or text (2 * j) 0)) → Broken text at
broken n text bs j at p l =
    broken_at text (take j bs) j at (length-take-le j bs (omega (arith, p.length_is))) (octets_take j bs p.octets) p.text_is

le_zeroes : (n : ℕ) → le_number (replicate n 0) ≡ 0
unfolding le_number
le_zeroes zero = refl
le_zeroes (suc n) = omega (arith, le_zeroes n)

le_padded : (xs : List ℕ) (n : ℕ) → le_number (xs ++ replicate n 0) ≡ le_number xs
unfolding le_number
le_padded [] n = le_zeroes n
le_padded (x ∷ xs) n = ap (λ m. x + 256 * m) (le_padded xs n)

-- an element from sixteen bytes, by the text that they were read from
pub writes : {k : ℕ} (text bs : List ℕ) (x : Element k) → shown_bytes k ≤ 16 → length text ≡ 2 * shown_bytes k → Parsed (shown_bytes k) text bs → x ≡ from_sixteen k bs → Writes text x
unfolding from_sixteen
writes {k} text bs x few len p e = record {
  bytes = take (shown_bytes k) bs;
  count = length-take-le (shown_bytes k) bs (omega (arith, p.length_is));
  octets = octets_take (shown_bytes k) bs p.octets;
  text_is = sym (take_all (2 * shown_bytes k) text (omega arith)) ∙ p.text_is;
  element_is = e ∙ ap (λ n. cut k n) (ap le_number (sym (take-append-drop (shown_bytes k) bs) ∙ ap (λ t. take (shown_bytes k) bs ++ t) p.padded) ∙ le_padded (take (shown_bytes k) bs) (16 - shown_bytes k));
}

octets_zeroes : (n : ℕ) → Octets (replicate n 0)
octets_zeroes zero i = omega arith
octets_zeroes (suc n) zero = omega arith
octets_zeroes (suc n) (suc i) = octets_zeroes n i

-- nothing read yet, in the first n of sixteen zeroes
pub zeroes : (n : ℕ) (text : List ℕ) → n ≤ 16 → ParsedIn n 0 text (take n (replicate 16 0))
unfolding hex
zeroes n text h = subst (ParsedIn n 0 text) (sym (take-replicate n 16 0 h)) (record {
  length_is = length-replicate n 0;
  octets = octets_zeroes n;
  text_is = refl;
  padded = ap (λ m. replicate m 0) (sym (sub-zero n));
})

octets_append : (xs ys : List ℕ) → Octets xs → Octets ys → Octets (xs ++ ys)
octets_append [] ys o p i = p i
octets_append (x ∷ xs) ys o p zero = o 0
octets_append (x ∷ xs) ys o p (suc i) = octets_append xs ys (λ j. o (suc j)) p i

-- all read, with the others of sixteen zeroes behind
pub all_read : (n j : ℕ) (text bs : List ℕ) → n ≤ 16 → j ≡ n → ParsedIn n j text bs → Parsed n text (bs ++ drop n (replicate 16 0))
all_read n j text bs few end p = subst (λ (ys : List ℕ). Parsed n text (bs ++ ys)) (sym (drop-replicate n 16 0)) (record {
  length_is = omega (arith, length-append bs (replicate (16 - n) 0), length-replicate {A = ℕ} (16 - n) 0, p.length_is);
  octets = octets_append bs (replicate (16 - n) 0) p.octets (octets_zeroes (16 - n));
  text_is = subst (λ (m : ℕ). take (2 * m) text ≡ hex (take m bs)) end p.text_is
      ∙ ap hex (take_all n bs (omega (arith, p.length_is)) ∙ sym (take_at bs (replicate (16 - n) 0) n p.length_is));
  padded = drop_at bs (replicate (16 - n) 0) n p.length_is;
})
