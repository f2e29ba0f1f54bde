-- No reply to a line begins with `error: no memory`: a product's second character is a digit, and the words of another fault are others.
use Rattle.std.proofs.Common.{◌≡◌, ℕ, ◌%◌, ◌<◌, ◌≢◌, List, [], ◌∷◌, ◌++◌, get_or, take, codes, inl, inr, refl, ap, arith}
use Rattle.std.proofs.lemmas.Bool.Decides.{nat_tests}
use Rattle.level.specs.Element.{Element}
use Rattle.level.specs.Bytes.{sixteen}
use Rattle.element_text.specs.Hex.{digit_code, hex, element_text, shown_bytes}
use Rattle.product_line.specs.Letters.{fault_text, NoneTellsOfMemory}
use Rattle.product_line.specs.declared.line.LineFault.{LineFault}
use Rattle.product_line.specs.declared.line.LineFault.TheVariants.{Letter, Shape, Digit, Memory}

digit_below : (v : ℕ) → v < 16 → digit_code v < 114
digit_below v h = grind (arith, nat_tests)

hex_second : (bs more : List ℕ) → 101 ∷ 114 ∷ more ≡ hex bs → ⊥
unfolding hex
hex_second [] more e = let z : ◌≡◌ {A = ℕ} 101 0 = ap (λ l. get_or l 0 0) e in omega arith
hex_second (b ∷ bs) more e =
    let z : 114 ≡ digit_code (b % 16) = ap (λ l. get_or l 1 0) e in
    let below : b % 16 < 16 = omega arith in
    omega (arith, z, digit_below (b % 16) below)

no_element : {k : ℕ} (x : Element k) (rest : List ℕ) → codes "error: no memory" ++ rest ≡ element_text x → ⊥
unfolding element_text
no_element {k} x rest e = hex_second (take (shown_bytes k) (sixteen x)) _ e

no_fault : (f : LineFault) (rest : List ℕ) → f ≢ Memory → codes "error: no memory" ++ rest ≡ codes "error: " ++ fault_text f → ⊥
no_fault Letter rest m e = let z : ◌≡◌ {A = ℕ} 109 108 = ap (λ l. get_or l 10 0) e in omega arith
no_fault (Shape digits) rest m e = let z : ◌≡◌ {A = ℕ} 110 116 = ap (λ l. get_or l 7 0) e in omega arith
no_fault (Digit place) rest m e = let z : ◌≡◌ {A = ℕ} 110 99 = ap (λ l. get_or l 7 0) e in omega arith
no_fault Memory rest m e = m refl

pub none_tells_of_memory : NoneTellsOfMemory
none_tells_of_memory line rest (inl a) = no_element _ rest a.product.answer_is
none_tells_of_memory line rest (inr (f, m, bad, is)) = no_fault f rest m is
