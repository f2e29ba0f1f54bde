-- A text writes at most one list of bytes, and at most one list of elements.
use Rattle.std.proofs.Common.{◌≡◌, ℕ, suc, ◌/◌, ◌%◌, ◌<◌, List, [], ◌∷◌, ◌++◌, length, take, drop, sym, subst, refl, ap, ap₂, ◌∙◌, arith}
use Rattle.std.proofs.lemmas.Bool.Decides.{nat_tests}
use Rattle.std.proofs.lemmas.List.{length-append, length_push, take_at, drop_at}
use Rattle.level.specs.Element.{Element}
use Rattle.level.specs.Bytes.{Octets, from_sixteen}
use Rattle.element_text.specs.Hex.{digit_code, hex, shown_bytes, Writes}
use Rattle.element_lists.specs.Bytes.{BytesOf, BytesDetermined}
use Rattle.element_lists.specs.Elements.{joined, EachWrites, ElementsOf, digits_of, ElementsDetermined}
use Rattle.element_lists.proofs.Joining.{ended, joined_ended, writes_length}

digit_same : (a b : ℕ) → a < 16 → b < 16 → digit_code a ≡ digit_code b → a ≡ b
digit_same a b h k e = grind (arith, nat_tests)

byte_same : (b c : ℕ) → b < 256 → c < 256 → digit_code (b / 16) ≡ digit_code (c / 16) → digit_code (b % 16) ≡ digit_code (c % 16) → b ≡ c
byte_same b c h k e f =
    let high : b / 16 ≡ c / 16 = digit_same (b / 16) (c / 16) (omega arith) (omega arith) e in
    let low : b % 16 ≡ c % 16 = digit_same (b % 16) (c % 16) (omega arith) (omega arith) f in
    omega arith

hex_same : (bs cs : List ℕ) → Octets bs → Octets cs → hex bs ≡ hex cs → bs ≡ cs
unfolding hex
hex_same [] [] o p e = refl
hex_same [] (c ∷ cs) o p e = absurd (omega (arith, ap length e))
hex_same (b ∷ bs) [] o p e = absurd (omega (arith, ap length e))
hex_same (b ∷ bs) (c ∷ cs) o p e =
    let high : digit_code (b / 16) ≡ digit_code (c / 16) = cc in
    let low : digit_code (b % 16) ≡ digit_code (c % 16) = cc in
    let others : hex bs ≡ hex cs = cc in
    ap₂ (λ (x : ℕ) (l : List ℕ). x ∷ l) (byte_same b c (o 0) (p 0) high low) (hex_same bs cs (λ j. o (suc j)) (λ j. p (suc j)) others)

pub bytes_same : {text bs cs : List ℕ} → BytesOf text bs → BytesOf text cs → bs ≡ cs
bytes_same {text} {bs} {cs} w v = hex_same bs cs w.octets v.octets (sym w.text_is ∙ v.text_is)

pub element_same : {k : ℕ} {text : List ℕ} {x y : Element k} → Writes text x → Writes text y → x ≡ y
element_same {k} w v =
    w.element_is ∙ ap (from_sixteen k) (hex_same w.bytes v.bytes w.octets v.octets (sym w.text_is ∙ v.text_is)) ∙ sym v.element_is

module _ {k : ℕ} where
  -- texts with a space after each, of which each writes an element
  ended_same : (ts us : List (List ℕ)) (xs ys : List (Element k)) → EachWrites ts xs → EachWrites us ys → ended ts ≡ ended us → xs ≡ ys
  unfolding ended
  ended_same [] [] [] [] w v e = refl
  ended_same [] us (x ∷ xs) ys w v e = absurd w
  ended_same (t ∷ ts) us [] ys w v e = absurd w
  ended_same ts [] xs (y ∷ ys) w v e = absurd v
  ended_same ts (u ∷ us) xs [] w v e = absurd v
  ended_same [] (u ∷ us) [] (y ∷ ys) w v e = absurd (omega (arith, ap length e, length-append u (32 ∷ ended us)))
  ended_same (t ∷ ts) [] (x ∷ xs) [] w v e = absurd (omega (arith, ap length e, length-append t (32 ∷ ended ts)))
  ended_same (t ∷ ts) (u ∷ us) (x ∷ xs) (y ∷ ys) w v e =
      let n = digits_of k in
      let first : t ≡ u = sym (take_at t (32 ∷ ended ts) n (writes_length w.0)) ∙ ap (take n) e ∙ take_at u (32 ∷ ended us) n (writes_length v.0) in
      let others : 32 ∷ ended ts ≡ 32 ∷ ended us =
      sym (drop_at t (32 ∷ ended ts) n (writes_length w.0)) ∙ ap (drop n) e ∙ drop_at u (32 ∷ ended us) n (writes_length v.0) in
      let same : ended ts ≡ ended us = cc in
      ap₂ (λ (z : Element k) (l : List (Element k)). z ∷ l) (element_same w.0 (subst (λ r. Writes r y) (sym first) v.0)) (ended_same ts us xs ys w.1 v.1 same)

some_text : (k : ℕ) (t : List ℕ) (ts : List (List ℕ)) → length t ≡ digits_of k → 0 < length (joined (t ∷ ts))
unfolding ended shown_bytes
some_text k t ts h =
    omega (arith, h, ap length (joined_ended t ts), length_push (joined (t ∷ ts)) 32, length-append t (32 ∷ ended ts))

length_none : length (joined []) ≡ 0
unfolding joined
length_none = refl

module _ {k : ℕ} where
  both_ended : (ts us : List (List ℕ)) (xs ys : List (Element k)) → EachWrites ts xs → EachWrites us ys → joined ts ≡ joined us → ended ts ≡ ended us
  both_ended [] [] xs ys w v e = refl
  both_ended (t ∷ ts) us [] ys w v e = absurd w
  both_ended ts (u ∷ us) xs [] w v e = absurd v
  both_ended [] (u ∷ us) xs (y ∷ ys) w v e = absurd (omega (arith, some_text k u us (writes_length v.0), length_none, ap length e))
  both_ended (t ∷ ts) [] (x ∷ xs) ys w v e = absurd (omega (arith, some_text k t ts (writes_length w.0), length_none, ap length e))
  both_ended (t ∷ ts) (u ∷ us) (x ∷ xs) (y ∷ ys) w v e = sym (joined_ended t ts) ∙ ap (λ l. l ++ (32 ∷ [])) e ∙ joined_ended u us

pub elements_same : {k : ℕ} {text : List ℕ} {xs ys : List (Element k)} → ElementsOf text xs → ElementsOf text ys → xs ≡ ys
elements_same {k} {text} {xs} {ys} w v =
    ended_same w.texts v.texts xs ys w.writes v.writes (both_ended w.texts v.texts xs ys w.writes v.writes (sym w.text_is ∙ v.text_is))

pub bytes_determined : BytesDetermined
bytes_determined text bs cs w v = bytes_same w v

pub elements_determined : ElementsDetermined
elements_determined k text xs ys w v = elements_same w v
