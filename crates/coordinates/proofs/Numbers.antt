-- An element by the number of its coordinates, and numbers bit by bit.
use Rattle.std.proofs.Common.{◌≡◌, ℕ, ◌+◌, ◌*◌, ◌%◌, ◌^◌, ◌<◌, ◌≤◌, List, ap, ◌∙◌, add_comm, mod-eq_of_lt, arith, pow_mono}
use lib.Bits.{bit_or}
use Rattle.std.proofs.lemmas.Nat.{one_shl, or_comm, or_shifted, shl_whole}
use Rattle.level.specs.Element.{Element, width, cut}
use Rattle.level.specs.Bytes.{digits, le_number, sixteen, from_sixteen}
use Rattle.level.proofs.Digits.{le_digits}
use Rattle.level.proofs.Words.{le_sixteen}
use Rattle.tensor_algebra.specs.Subsets.{basis}

-- a level of at most 128 coordinates has no others
pub few : (k u : ℕ) → k ≤ 7 → u < width k → u < 128
few k u h l = let narrow : 2 ^ k ≤ 2 ^ 7 = pow_mono h in omega arith

-- read from the bytes of an element
pub number_of : {k : ℕ} → k ≤ 7 → (x : Element k) (bs : List ℕ) (n : ℕ) → bs ≡ sixteen x → n ≡ le_number bs → n ≡ x.number
number_of narrow x bs n shown read = read ∙ ap le_number shown ∙ le_sixteen x narrow

-- made from the bytes of a number of 128 bits
pub element_of : {k : ℕ} (n : ℕ) (bs : List ℕ) (x : Element k) → n < 2 ^ 128 → bs ≡ digits 16 n → x ≡ from_sixteen k bs → x ≡ cut k n
unfolding from_sixteen
element_of {k} n bs x h shown made = made ∙ ap (from_sixteen k) shown ∙ ap (cut k) (le_digits 16 n ∙ mod-eq_of_lt h)

pub basis_of : {k : ℕ} (u n : ℕ) (x : Element k) → n ≡ 2 ^ u → x ≡ cut k n → x ≡ basis k u
unfolding basis
basis_of {k} u n x e made = made ∙ ap (cut k) e

-- one bit alone
pub one_bit : (u : ℕ) → u < 128 → (1 * 2 ^ u) % 2 ^ 128 ≡ 2 ^ u
one_bit u h = one_shl u 128 h

-- one bit more, above all others
pub next_bit : (n u b : ℕ) → u < 128 → n < 2 ^ u → b < 2 → bit_or n (b * 2 ^ u % 2 ^ 128) ≡ n + b * 2 ^ u
next_bit n u b h fits bit =
    let whole : b * 2 ^ u % 2 ^ 128 ≡ b * 2 ^ u = shl_whole b 1 u 128 bit (omega arith) in
    ap (bit_or n) whole ∙ or_comm n (b * 2 ^ u) ∙ or_shifted b u n fits ∙ add_comm (b * 2 ^ u) n
