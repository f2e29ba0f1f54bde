-- An opening and its values, part by part.
use Rattle.std.proofs.Common.{◌≡◌, ℕ, List, map, Option, ap₂}
use Rattle.level.specs.Element.{Element}
use Rattle.ring_switch.specs.Opening.{Opening, View, Prefix}
use Rattle.report_lines.specs.Opened.{Values}

pub values_are : {k : ℕ} (x y : Element k) (s t : Option (Element k)) (n a : ℕ) (p : Prefix) → x ≡ y → s ≡ t → n ≡ p.count → a ≡ p.address
    → ◌≡◌ {A = Values k} (record { incoming = x; successor = s; prefix = record { count = n; address = a } }) (record { incoming = y; successor = t; prefix = p })
values_are {k} x y s t n a p e f c d =
    let q : ◌≡◌ {A = Prefix} (record { count = n; address = a }) p = ap₂ (λ i j. record { count = i; address = j }) c d in
    ap₂ (λ (g : Element k) (r : Option (Element k) × Prefix). record { incoming = g; successor = r.0; prefix = r.1 }) e (ap₂ (λ i j. (i, j)) f q)

-- an opening at the same point under the same view
pub same_opening : {X : Type 0} {k : ℕ} (means : X → Element k) (p q : List X) (v w : View) → p ≡ q → v ≡ w
    → ◌≡◌ {A = Opening k} (record { point = map means p; view = v }) (record { point = map means q; view = w })
same_opening {X} {k} means p q v w e f = ap₂ (λ (x : List X) (y : View). record { point = map means x; view = y }) e f
