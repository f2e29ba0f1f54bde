-- What the tensors of an opened table of bits answer by their columns.
use Rattle.std.specs.Prelude.{ℕ}
use Rattle.level.specs.Element.{Element}
use Rattle.level.specs.Laws.{Arithmetic}
use Rattle.multilinear.specs.Equality.{equality}
use Rattle.ring_switch.specs.Opening.{Opening, named, low}
use Rattle.ring_switch.specs.Claims.{incoming, successor_claim}
use Rattle.ring_switch.specs.ClaimLaws.{opened, opened_carry, opened_last}

module _ {k : ℕ} (A : Arithmetic k) (o : Opening k) (bits : ℕ → ℕ) where
  -- the incoming claim
  abbrev pub incoming_of : Element k
  incoming_of = incoming A (equality A (low o)) (opened A o bits)

  -- the successor claim
  abbrev pub successor_claim_of : Element k
  successor_claim_of = successor_claim A (equality A (low o)) (named o.view) (opened A o bits) (opened_carry A o bits) (opened_last A o bits)
