-- The text of bytes, one byte after another.
use Rattle.std.proofs.Common.{◌≡◌, ℕ, ◌+◌, ◌*◌, ◌/◌, ◌%◌, ◌<◌, List, [], ◌∷◌, ◌++◌, length, get_or, take, refl, ap, ◌∙◌, arith}
use Rattle.std.proofs.lemmas.List.{take_more}
use Rattle.element_text.specs.Hex.{digit_code, hex}

pub hex_append : (xs bs : List ℕ) → hex (xs ++ bs) ≡ hex xs ++ hex bs
unfolding hex
hex_append [] bs = refl
hex_append (a ∷ xs) bs = ap (λ t. digit_code (a / 16) ∷ digit_code (a % 16) ∷ t) (hex_append xs bs)

pub hex_more : (bs : List ℕ) (i : ℕ) → i < length bs → hex (take (i + 1) bs) ≡ hex (take i bs) ++ (digit_code (get_or bs i 0 / 16) ∷ digit_code (get_or bs i 0 % 16) ∷ [])
unfolding hex
hex_more bs i h = ap hex (take_more bs i 0 h) ∙ hex_append (take i bs) (get_or bs i 0 ∷ [])

pub length_hex : (bs : List ℕ) → length (hex bs) ≡ 2 * length bs
unfolding hex
length_hex [] = refl
length_hex (b ∷ bs) = omega (arith, length_hex bs)
