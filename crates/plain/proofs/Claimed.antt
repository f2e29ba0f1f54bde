-- Multilinear values as the claims that an opened table's tensors answer, and as a closing value.
use Rattle.std.proofs.Common.{◌≡◌, ℕ, ◌≤◌, length, Option, sym, ◌∙◌}
use Rattle.level.specs.Element.{Element}
use Rattle.level.specs.Laws.{Arithmetic, Laws}
use Rattle.multilinear.specs.Equality.{Point, equality, multilinear}
use Rattle.ring_switch.specs.Opening.{Opening, named, low}
use Rattle.ring_switch.specs.Claims.{incoming, successor_claim}
use Rattle.ring_switch.specs.ClaimLaws.{Binary, opened, opened_carry, opened_last, value, value_one_row_on}
use Rattle.ring_switch.specs.Batching.{weight, closing_value}
use Rattle.ring_switch.proofs.Incoming.{incoming_is_multilinear}
use Rattle.ring_switch.proofs.Successor.{successor_is_multilinear}
use Rattle.ring_switch.proofs.ClosingElements.{closing_multilinear}

module _ {k : ℕ} {A : Arithmetic k} (laws : Laws A) where
  pub is_incoming : (bits : ℕ → ℕ) → Binary bits → (o : Opening k) (x : Element k) → x ≡ value A o bits → k ≤ length o.point
      → x ≡ incoming A (equality A (low o)) (opened A o bits)
  is_incoming bits binary o x e h = e ∙ sym (incoming_is_multilinear laws bits binary o h)

  pub is_successor_claim : (bits : ℕ → ℕ) → Binary bits → (o : Opening k) (x : Element k) → x ≡ value_one_row_on A o bits → k ≤ length o.point
      → named o.view ≤ length o.point
      → x ≡ successor_claim A (equality A (low o)) (named o.view) (opened A o bits) (opened_carry A o bits) (opened_last A o bits)
  is_successor_claim bits binary o x e h rows = e ∙ sym (successor_is_multilinear laws bits binary o h rows)

  pub is_closing : (f : ℕ → Element k) (slot z : Point k) (r : ℕ) (α : Option (Element k)) (x : Element k)
      → x ≡ multilinear A (weight A f (equality A slot) r α) z → r ≤ length slot → length z ≡ length slot → x ≡ closing_value A f slot r α z
  is_closing f slot z r α x e rows len = e ∙ sym (closing_multilinear laws f slot r rows α z len)
