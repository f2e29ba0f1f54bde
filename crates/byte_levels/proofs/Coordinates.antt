-- A byte as an element of eight coordinates.
use Rattle.std.proofs.Common.{◌≡◌, ℕ, ◌^◌, ◌<◌, List, [], ◌∷◌, get_or, sym, refl, ap, ◌∙◌, mod-eq_of_lt, arith}
use Rattle.level.specs.Element.{Element, cut, zeros}
use Rattle.level.specs.Laws.{Arithmetic, Laws}
use Rattle.level.specs.Bytes.{digits, le_number, sixteen, from_sixteen}
use Rattle.level.proofs.Elements.{same, cut_is, cut_number}

pub zero_is : cut 3 0 ≡ zeros 3
unfolding cut zeros
zero_is = same _ _ refl

-- an element is what its number writes
pub cut_of : {k : ℕ} (n : ℕ) (x : Element k) → n ≡ x.number → cut k n ≡ x
cut_of {k} n x e = ap (cut k) e ∙ cut_number x

pub byte_number : (b : ℕ) → b < 2 ^ 8 → (cut 3 b).number ≡ b
byte_number b h = cut_is 3 b ∙ mod-eq_of_lt h

-- bytes with the same coordinates are equal
pub same_byte : (a b : ℕ) → a < 2 ^ 8 → b < 2 ^ 8 → cut 3 a ≡ cut 3 b → a ≡ b
same_byte a b ha hb e = sym (byte_number a ha) ∙ ap (λ x. x.number) e ∙ byte_number b hb

pub to_sixteen : (b : ℕ) → b < 2 ^ 8 → digits 16 b ≡ sixteen (cut 3 b)
unfolding sixteen
to_sixteen b h = ap (digits 16) (sym (byte_number b h))

pub first_of_sixteen : (bs : List ℕ) → cut 3 (get_or bs 0 0) ≡ from_sixteen 3 bs
unfolding from_sixteen le_number cut
first_of_sixteen [] = refl
first_of_sixteen (b ∷ bs) = same _ _ (omega arith)

-- the bits of one, as the left factor
pub one_times : {A : Arithmetic 3} → Laws A → cut 3 1 ≡ A.unit → (x : Element 3) → A.times (cut 3 1) x ≡ x
one_times {A} laws e x = laws.times_comm (cut 3 1) x ∙ ap (A.times x) e ∙ laws.times_unit x
