-- Texts with single spaces between them, by places.
use Rattle.std.proofs.Common.{◌≡◌, ℕ, zero, suc, ◌+◌, ◌-◌, ◌*◌, ◌/◌, ◌%◌, ◌<◌, ◌≤◌, List, [], ◌∷◌, ◌++◌, length, get_or, take, drop, sym, refl, ap, ◌∙◌, subst, ap₂, mul-le-mul_right, mod-eq_of_lt, suc-mul, zero-mul, arith}
use native.Mathlib.Decide.{dec_lt}
use native.Mathlib.Nat.{add-mod_left}
use Rattle.std.specs.List.{AllByRecursion}
use Rattle.std.proofs.lemmas.Nat.{div-add-mod', mod-mul-add}
use Rattle.std.proofs.lemmas.List.{append_assoc, append_cancel_right, length-append, length-drop, length_push, take_all, take-take, take-append-drop, take-append-le, drop-append-le, drop-take, take_more, get_or-drop, get_or_at, get_or_append_left, get_or-append_right}
use Rattle.level.specs.Element.{Element}
use Rattle.element_text.specs.Hex.{Writes, IsDigit}
use Rattle.element_text.proofs.Hexes.{length_hex}
use Rattle.element_text.proofs.Parsing.{hex_digits}
use Rattle.element_lists.specs.Elements.{joined, EachWrites, ElementsOf, digits_of, NoSpace, BadElement, BadElements, RefusedWriteNoElements}
use Rattle.element_lists.specs.declared.elements.ElementsFault.{ElementsFault}
use Rattle.element_lists.specs.declared.elements.ElementsFault.TheVariants.{Shape, Digit, Memory}

-- each text with a space after it
unfoldable pub ended : List (List ℕ) → List ℕ
ended [] = []
ended (t ∷ ts) = t ++ (32 ∷ ended ts)

pub joined_ended : (t : List ℕ) (ts : List (List ℕ)) → joined (t ∷ ts) ++ (32 ∷ []) ≡ ended (t ∷ ts)
unfolding joined ended
joined_ended t [] = refl
joined_ended t (u ∷ ts) = append_assoc t (32 ∷ joined (u ∷ ts)) (32 ∷ []) ∙ ap (λ r. t ++ (32 ∷ r)) (joined_ended u ts)

ended_push : (ts : List (List ℕ)) (t : List ℕ) → ended (ts ++ (t ∷ [])) ≡ ended ts ++ (t ++ (32 ∷ []))
unfolding ended
ended_push [] t = refl
ended_push (u ∷ ts) t = ap (λ r. u ++ (32 ∷ r)) (ended_push ts t) ∙ sym (append_assoc u (32 ∷ ended ts) (t ++ (32 ∷ [])))

take_sum : (a b : ℕ) (l : List ℕ) → take (a + b) l ≡ take a l ++ take b (drop a l)
take_sum a b l =
    sym (take-append-drop a (take (a + b) l)) ∙ ap₂ (λ (x y : List ℕ). x ++ y) (take-take a (a + b) l (omega arith)) (drop-take a b l)

-- n characters from a on, and the space or the end after them
piece : (n a : ℕ) (text : List ℕ) → a + n ≤ length text → (a + n < length text → get_or text (a + n) 0 ≡ 32)
    → take (n + 1) (drop a (text ++ (32 ∷ []))) ≡ take n (drop a text) ++ (32 ∷ [])
piece n a text h space =
    let rest = drop a (text ++ (32 ∷ [])) in
    let long : length rest ≡ (length text + 1) - a = length-drop a (text ++ (32 ∷ [])) ∙ ap (λ m. m - a) (length_push text 32) in
    let at : get_or rest n 0 ≡ 32 = get_or-drop a (text ++ (32 ∷ [])) n 0 ∙ last (dec_lt (a + n) (length text)) in
    let front : take n rest ≡ take n (drop a text) =
    ap (take n) (drop-append-le a text (32 ∷ []) (omega arith)) ∙ take-append-le n (drop a text) (32 ∷ []) (omega (arith, length-drop a text)) in
    take_more rest n 0 (omega arith) ∙ ap₂ (λ (l : List ℕ) (x : ℕ). l ++ (x ∷ [])) front at
  where
    last : Dec (a + n < length text) → get_or (text ++ (32 ∷ [])) (a + n) 0 ≡ 32
    last (yes inside) = get_or_append_left text (32 ∷ []) 0 (a + n) inside ∙ space inside
    last (no outside) = let e : length text ≡ a + n = omega arith in get_or_at text 32 [] 0 (a + n) e

-- the first i elements of a text, of n digits each, read so far
pub record Front {k : ℕ} (n : ℕ) (text : List ℕ) (xs : List (Element k)) (i : ℕ) : Type 0 where
  pub texts : List (List ℕ)
  pub writes : EachWrites texts xs
  pub count : length texts ≡ i
  pub text_is : take (i * (n + 1)) (text ++ (32 ∷ [])) ≡ ended texts

each_push : {k : ℕ} (ts : List (List ℕ)) (xs : List (Element k)) (t : List ℕ) (x : Element k) → EachWrites ts xs → Writes t x → EachWrites (ts ++ (t ∷ [])) (xs ++ (x ∷ []))
each_push [] [] t x w v = (v, tt)
each_push [] (y ∷ xs) t x w v = absurd w
each_push (u ∷ ts) [] t x w v = absurd w
each_push (u ∷ ts) (y ∷ xs) t x w v = (w.0, each_push ts xs t x w.1 v)

pub front_none : {k : ℕ} (n : ℕ) (text : List ℕ) → Front {k = k} n text [] 0
unfolding ended
front_none n text = record { texts = []; writes = tt; count = refl; text_is = ap (λ m. take m (text ++ (32 ∷ []))) (zero-mul (n + 1)) }

pub front_more : {k : ℕ} (n : ℕ) (text : List ℕ) (xs : List (Element k)) (i : ℕ) (x : Element k) → i * (n + 1) + n ≤ length text
    → (i * (n + 1) + n < length text → get_or text (i * (n + 1) + n) 0 ≡ 32) → Writes (take n (drop (i * (n + 1)) text)) x → Front n text xs i → Front n text (xs ++ (x ∷ [])) (i + 1)
front_more n text xs i x h space w f =
    let a = i * (n + 1) in
    let t = take n (drop a text) in
    let next : (i + 1) * (n + 1) ≡ a + (n + 1) = omega (arith, suc-mul i (n + 1)) in
    record {
      texts = f.texts ++ (t ∷ []);
      writes = each_push f.texts xs t x f.writes w;
      count = length_push f.texts t ∙ ap (λ m. m + 1) f.count;
      text_is = ap (λ m. take m (text ++ (32 ∷ []))) next ∙ take_sum a (n + 1) (text ++ (32 ∷ []))
          ∙ ap₂ (λ (l r : List ℕ). l ++ r) f.text_is (piece n a text h space) ∙ sym (ended_push f.texts t);
    }

-- the text as its texts with a space after each, where there is any
spaces_after : (text : List ℕ) (ts : List (List ℕ)) → 0 < length ts → text ++ (32 ∷ []) ≡ ended ts → text ≡ joined ts
spaces_after text [] h e = absurd (omega arith)
spaces_after text (t ∷ ts) h e = append_cancel_right text (joined (t ∷ ts)) (32 ∷ []) (e ∙ sym (joined_ended t ts))

-- there is room for the element at place i
pub room : (n len i : ℕ) → len % (n + 1) ≡ n → i < len / (n + 1) + 1 → i * (n + 1) + n ≤ len
room n len i h l =
    let q : i ≤ len / (n + 1) = omega arith in
    omega (arith, mul-le-mul_right (n + 1) q, div-add-mod' len (n + 1))

pub front_all : {k : ℕ} (n : ℕ) (text : List ℕ) (xs : List (Element k)) (i : ℕ) → length text % (n + 1) ≡ n → i ≡ length text / (n + 1) + 1 → Front n text xs i → ElementsOf text xs
front_all n text xs i h e f =
    let q = length text / (n + 1) in
    let over : i * (n + 1) ≡ q * (n + 1) + (n + 1) = ap (λ m. m * (n + 1)) e ∙ omega (arith, suc-mul q (n + 1)) in
    let whole : length (text ++ (32 ∷ [])) ≤ i * (n + 1) = omega (arith, length_push text 32, div-add-mod' (length text) (n + 1)) in
    record {
      texts = f.texts;
      writes = f.writes;
      text_is = spaces_after text f.texts (omega (arith, f.count)) (sym (take_all (i * (n + 1)) (text ++ (32 ∷ [])) whole) ∙ f.text_is);
    }

-- no characters, no elements
pub nothing : {k : ℕ} (text : List ℕ) → text ≡ [] → ElementsOf {k = k} text []
unfolding joined
nothing text e = record { texts = []; writes = tt; text_is = e }

-- the way back: a text that is texts of n characters with single spaces between them
module _ (n : ℕ) where
  ended_of : (text : List ℕ) (ts : List (List ℕ)) → 0 < length text → text ≡ joined ts → text ++ (32 ∷ []) ≡ ended ts
  unfolding joined
  ended_of text [] h e = absurd (omega (arith, ap length e))
  ended_of text (t ∷ ts) h e = ap (λ l. l ++ (32 ∷ [])) e ∙ joined_ended t ts

  length_ended : (ts : List (List ℕ)) → AllByRecursion (λ t. length t ≡ n) ts → length (ended ts) ≡ length ts * (n + 1)
  unfolding ended
  length_ended [] a = sym (zero-mul (n + 1))
  length_ended (t ∷ ts) a = omega (arith, length-append t (32 ∷ ended ts), a.0, length_ended ts a.1, suc-mul (length ts) (n + 1))

  pub right_length : (text : List ℕ) (ts : List (List ℕ)) → AllByRecursion (λ t. length t ≡ n) ts → 0 < length text → text ≡ joined ts → length text % (n + 1) ≡ n
  unfolding joined
  right_length text [] a h e = absurd (omega (arith, ap length e))
  right_length text (t ∷ ts) a h e =
      let len : length text ≡ length ts * (n + 1) + n =
      omega (arith, length_push text 32, ap length (ended_of text (t ∷ ts) h e), length_ended (t ∷ ts) a, suc-mul (length ts) (n + 1)) in
      ap (λ m. m % (n + 1)) len ∙ mod-mul-add (length ts) (n + 1) n (omega arith)

  past : (t : List ℕ) (rest : List ℕ) (m : ℕ) → length t ≡ n → get_or (t ++ (32 ∷ rest)) ((n + 1) + m) 0 ≡ get_or rest m 0
  past t rest m h =
      let s : length (t ++ (32 ∷ [])) ≡ n + 1 = length_push t 32 ∙ ap (λ l. l + 1) h in
      let d : ((n + 1) + m) - (n + 1) ≡ m = omega arith in
      ap (λ l. get_or l ((n + 1) + m) 0) (sym (append_assoc t (32 ∷ []) rest))
      ∙ get_or-append_right (t ++ (32 ∷ [])) rest (n + 1) ((n + 1) + m) 0 s (omega arith) ∙ ap (λ j. get_or rest j 0) d

  space_at : (ts : List (List ℕ)) (i : ℕ) → AllByRecursion (λ t. length t ≡ n) ts → i < length ts → get_or (ended ts) (i * (n + 1) + n) 0 ≡ 32
  unfolding ended
  space_at [] i a h = absurd (omega arith)
  space_at (t ∷ ts) zero a h =
      let z : 0 * (n + 1) + n ≡ n = omega (arith, zero-mul (n + 1)) in
      ap (λ j. get_or (t ++ (32 ∷ ended ts)) j 0) z ∙ get_or_at t 32 (ended ts) 0 n a.0
  space_at (t ∷ ts) (suc i) a h =
      let z : suc i * (n + 1) + n ≡ (n + 1) + (i * (n + 1) + n) = omega (arith, suc-mul i (n + 1)) in
      ap (λ j. get_or (t ++ (32 ∷ ended ts)) j 0) z ∙ past t (ended ts) (i * (n + 1) + n) a.0 ∙ space_at ts i a.1 (omega arith)

  pub no_space : (text : List ℕ) (ts : List (List ℕ)) (i : ℕ) → AllByRecursion (λ t. length t ≡ n) ts → text ≡ joined ts → NoSpace text i n → ⊥
  no_space text ts i a e bad = bad.1 (sym (get_or_append_left text (32 ∷ []) 0 _ bad.0) ∙ ap (λ l. get_or l (i * (n + 1) + n) 0) whole ∙ space_at ts i a inside)
    where
      whole : text ++ (32 ∷ []) ≡ ended ts
      whole = ended_of text ts (omega (arith, bad.0)) e

      inside : i < length ts
      inside = below (dec_lt i (length ts))
        where
          below : Dec (i < length ts) → i < length ts
          below (yes l) = l
          below (no m) =
              let q : length ts ≤ i = omega arith in
              absurd (omega (arith, bad.0, mul-le-mul_right (n + 1) q, length_ended ts a, ap length whole, length_push text 32))

pub writes_length : {k : ℕ} {t : List ℕ} {x : Element k} → Writes t x → length t ≡ digits_of k
writes_length w = ap length w.text_is ∙ length_hex w.bytes ∙ ap (λ m. 2 * m) w.count

pub each_lengths : {k : ℕ} (ts : List (List ℕ)) (xs : List (Element k)) → EachWrites ts xs → AllByRecursion (λ t. length t ≡ digits_of k) ts
each_lengths [] xs w = tt
each_lengths (t ∷ ts) [] w = absurd w
each_lengths (t ∷ ts) (x ∷ xs) w = (writes_length w.0, each_lengths ts xs w.1)

-- a character of an element's text is a digit
digit_at : {k : ℕ} {t : List ℕ} {x : Element k} → Writes t x → (at : ℕ) → at < digits_of k → IsDigit (get_or t at 0)
digit_at w at h = subst (λ t. IsDigit (get_or t at 0)) (sym w.text_is) (hex_digits w.bytes w.octets at (omega (arith, w.count)))

-- the same in texts with a space after each: one in the first, or one in the others
first_digit : {k : ℕ} (t : List ℕ) (x : Element k) (rest : List ℕ) (at : ℕ) → Writes t x → at % (digits_of k + 1) < digits_of k
    → ((m : ℕ) → at ≡ (digits_of k + 1) + m → IsDigit (get_or rest m 0)) → Dec (at < digits_of k + 1) → IsDigit (get_or (t ++ (32 ∷ rest)) at 0)
first_digit {k} t x rest at w l next (yes h) =
    let early : at < digits_of k = omega (arith, mod-eq_of_lt h) in
    let e : get_or t at 0 ≡ get_or (t ++ (32 ∷ rest)) at 0 = sym (get_or_append_left t (32 ∷ rest) 0 at (omega (arith, writes_length w))) in
    subst IsDigit e (digit_at w at early)
first_digit {k} t x rest at w l next (no late) =
    let m = at - (digits_of k + 1) in
    let e : at ≡ (digits_of k + 1) + m = omega arith in
    subst IsDigit (sym (ap (λ j. get_or (t ++ (32 ∷ rest)) j 0) e ∙ past (digits_of k) t rest m (writes_length w))) (next m e)

ended_digit : {k : ℕ} (ts : List (List ℕ)) (xs : List (Element k)) (at : ℕ) → EachWrites ts xs → at < length (ended ts) → at % (digits_of k + 1) < digits_of k → IsDigit (get_or (ended ts) at 0)
unfolding ended
ended_digit [] xs at w h l = absurd (omega arith)
ended_digit (t ∷ ts) [] at w h l = absurd w
ended_digit {k} (t ∷ ts) (x ∷ xs) at w h l =
    first_digit t x (ended ts) at w.0 l
    (λ m e. ended_digit ts xs m w.1 (omega (arith, length-append t (32 ∷ ended ts), writes_length w.0))
    (subst (λ r. r < digits_of k) (ap (λ j. j % (digits_of k + 1)) e ∙ add-mod_left (digits_of k + 1) m) l))
    (dec_lt at (digits_of k + 1))

-- a place of a digit in the text of elements has one
pub all_digits : {k : ℕ} (text : List ℕ) (xs : List (Element k)) (at : ℕ) → ElementsOf text xs → at < length text → at % (digits_of k + 1) < digits_of k → IsDigit (get_or text at 0)
all_digits {k} text xs at w h l =
    let whole = ended_of (digits_of k) text w.texts (omega arith) w.text_is in
    subst IsDigit (ap (λ t. get_or t at 0) (sym whole) ∙ get_or_append_left text (32 ∷ []) 0 at h)
    (ended_digit w.texts xs at w.writes (omega (arith, ap length whole, length_push text 32)) l)

-- the refusal of one element is one of the text
pub bad_text : (k : ℕ) (text : List ℕ) (i : ℕ) (f : ElementsFault) → BadElement k text i f → BadElements k text f
bad_text k text i (Shape digits) e = (e.0, λ ts a t. no_space digits text ts i a t e.1)
bad_text k text i (Digit place) e = e
bad_text k text i Memory e = tt

pub refused_write_no_elements : RefusedWriteNoElements
refused_write_no_elements k text xs (Shape digits) m (d, none) w =
    none w.texts (subst (λ n. AllByRecursion (λ t. length t ≡ n) w.texts) (sym d) (each_lengths w.texts xs w.writes)) w.text_is
refused_write_no_elements k text xs (Digit place) m (at, _, inside, l, none) w =
    let d = all_digits text xs at w inside l in none d.0 d.1 d.2
refused_write_no_elements k text xs Memory m e w = m refl
