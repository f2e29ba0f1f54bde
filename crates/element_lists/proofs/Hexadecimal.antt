-- Bytes read from a text.
use Rattle.std.proofs.Common.{◌≡◌, ℕ, zero, suc, ◌+◌, ◌*◌, ◌<◌, ◌≤◌, List, [], ◌∷◌, ◌++◌, length, get_or, take, Ok, Result, MatchResult, sym, refl, ap, ◌∙◌, subst, arith}
use Rattle.std.proofs.lemmas.List.{length_push, take_all}
use Rattle.level.specs.Bytes.{Octets}
use Rattle.std.specs.Result.{IsErrAnd}
use Rattle.element_text.specs.Hex.{hex, NoDigit, IsDigit, Pair}
use Rattle.element_text.specs.declared.element.DigitFault.{DigitFault}
use Rattle.element_text.proofs.Hexes.{length_hex}
use Rattle.element_text.proofs.Parsing.{hex_digits, hex_next, broken_at}
use Rattle.element_text.proofs.Mapped.{mapped}
use Rattle.element_lists.specs.Bytes.{BytesOf, BadBytes, RefusedWriteNoBytes}
use Rattle.element_lists.specs.declared.bytes.BytesFault.{BytesFault}
use Rattle.element_lists.specs.declared.bytes.BytesFault.TheVariants.{Odd, Digit, Memory}

-- the first bytes of a text, read so far
pub record Front (text bytes : List ℕ) (j : ℕ) : Type 0 where
  pub count : length bytes ≡ j
  pub octets : Octets bytes
  pub text_is : take (2 * j) text ≡ hex bytes

pub octets_push : (bs : List ℕ) (b : ℕ) → Octets bs → b < 256 → Octets (bs ++ (b ∷ []))
octets_push [] b o h zero = h
octets_push [] b o h (suc i) = omega arith
octets_push (x ∷ bs) b o h zero = o 0
octets_push (x ∷ bs) b o h (suc i) = octets_push bs b (λ n. o (suc n)) h i

pub front_none : (text bytes : List ℕ) → bytes ≡ [] → Front text bytes 0
unfolding hex
front_none text bytes e = subst (λ bs. Front text bs 0) (sym e) (record { count = refl; octets = λ i. omega arith; text_is = refl })

pub front_more : (text bytes more : List ℕ) (j b : ℕ) → 2 * j + 1 < length text → b < 256 → Front text bytes j → Pair text j b → more ≡ bytes ++ (b ∷ []) → Front text more (j + 1)
front_more text bytes more j b h small f q e = subst (λ bs. Front text bs (j + 1)) (sym e) (record {
  count = length_push bytes b ∙ ap (λ n. n + 1) f.count;
  octets = octets_push bytes b f.octets small;
  text_is = hex_next text bytes j b h f.text_is q;
})

pub front_all : (text bytes : List ℕ) (j : ℕ) → length text ≤ 2 * j → Front text bytes j → BytesOf text bytes
front_all text bytes j h f = record { octets = f.octets; text_is = sym (take_all (2 * j) text h) ∙ f.text_is }

-- byte j of a text, read as its error is told by a place from 1
pub read_byte : (text bytes : List ℕ) (j : ℕ) → 2 * j + 1 < length text → Front text bytes j → (r : Result ℕ DigitFault) (s : Result ℕ BytesFault) {F : DigitFault → BytesFault → Type 0}
    → MatchResult r (Pair text j) (λ fault. (fault.at < 2 * j + 2) × (2 * j ≤ fault.at) × NoDigit (get_or text fault.at 0) × (2 * j < fault.at → IsDigit (get_or text (2 * j) 0)))
    → MatchResult r (λ b. s ≡ Ok b) (λ fault. IsErrAnd s (F fault)) → ((fault : DigitFault) (z : BytesFault) → F fault z → z ≡ Digit (fault.at + 1)) → MatchResult s (Pair text j) (BadBytes text)
read_byte text bytes j inside f r s met made is =
    mapped r s met made (λ b p. p)
    (λ fault z e m. subst (BadBytes text) (sym (is fault z m)) (
      fault.at,
      refl,
      omega (arith, e.0),
      broken_at text bytes j fault.at f.count f.octets f.text_is e.0 e.1 e.2 e.3,
    ))

pub refused_write_no_bytes : RefusedWriteNoBytes
refused_write_no_bytes text bytes Odd m e w = omega (arith, ap length w.text_is, length_hex bytes)
refused_write_no_bytes text bytes (Digit place) m (at, _, inside, b) w =
    let d : IsDigit (get_or text at 0) = subst (λ t. IsDigit (get_or t at 0)) (sym w.text_is) (hex_digits bytes w.octets at (omega (arith, ap length w.text_is, length_hex bytes))) in
    b.no_digit d.0 d.1 d.2
refused_write_no_bytes text bytes Memory m e w = m refl
