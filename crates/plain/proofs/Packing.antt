-- A loop that gathers the coordinates of an element bit by bit.
use Rattle.std.proofs.Common.{◌≡◌, ℕ, ◌+◌, ◌*◌, ◌%◌, ◌^◌, ◌<◌, ◌≤◌, List, sym, refl, ap, ◌∙◌, ap₂, mod-eq_of_lt, add-one, arith}
use Rattle.level.specs.Element.{Element, width, cut}
use Rattle.level.proofs.Elements.{same, cut_is}
use Rattle.multilinear.specs.Gathered.{binary, binary_fits}
use Rattle.multilinear.specs.Cells.{cell, gather, packed}

pub cell_binary : (bits : List ℕ) (c : ℕ) → cell bits c < 2
unfolding cell
cell_binary bits c = omega arith

pub binary_begins : (f : ℕ → ℕ) → 0 ≡ binary 0 f
unfolding binary
binary_begins f = refl

-- one digit more
pub binary_more : (f : ℕ → ℕ) (v n b r : ℕ) → f v < 2 → n ≡ binary v f → b ≡ f v → r ≡ n + b * 2 ^ v → r ≡ binary (v + 1) f
unfolding binary
binary_more f v n b r bit e read made =
    made ∙ ap₂ (λ a d. a + d * 2 ^ v) e (read ∙ sym (mod-eq_of_lt bit)) ∙ ap (λ i. binary i f) (sym (add-one v))

-- the digits before a place are below its weight
pub digits_fit : (f : ℕ → ℕ) (v n : ℕ) → n ≡ binary v f → n < 2 ^ v
digits_fit f v n e = omega (arith, binary_fits v f)

-- the element made from all its digits
pub packed_ends : (k : ℕ) (bits : ℕ → ℕ) (w d v n : ℕ) (x : Element k) → d ≡ width k → v ≤ d → d ≤ v
    → n ≡ binary v (λ u. bits (w * d + u)) → x ≡ cut k n → x ≡ packed k bits w
unfolding gather packed
packed_ends k bits w d v n x wide below above e made =
    let all : v ≡ d = omega arith in
    let digits_are = e ∙ ap (λ i. binary i (λ u. bits (w * d + u))) all ∙ ap (λ i. binary i (λ u. bits (w * i + u))) wide in
    made ∙ same _ _ (cut_is k n ∙ ap (λ m. m % 2 ^ width k) digits_are ∙ mod-eq_of_lt (binary_fits (width k) (λ u. bits (w * width k + u))))
