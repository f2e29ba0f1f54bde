-- A text gives its parts in one way.
use Rattle.std.proofs.Common.{◌≡◌, ℕ, List, Some, None, Option, refl, sym, ◌∙◌}
use Rattle.std.specs.Option.{option_to_list}
use Rattle.explain_input.specs.Inputs.{Parts, Optional, PartsDetermined}
use Rattle.explain_input.specs.Values.{Number}

option_same : {X : Type 0} (o p : Option X) → option_to_list o ≡ option_to_list p → o ≡ p
option_same None None e = refl
option_same None (Some y) e = cc
option_same (Some x) None e = cc
option_same (Some x) (Some y) e = cc

number_same : (ts : List (List ℕ)) (o p : Option ℕ) → Optional Number ts o → Optional Number ts p → o ≡ p
number_same ts None None e f = refl
number_same ts None (Some n) e f = cc (e, f.1)
number_same ts (Some m) None e f = cc (e.1, f)
number_same ts (Some m) (Some n) e f = cc (e.1, f.1, e.2.1, f.2.1)

abbrev parts : ℕ → List ℕ → List ℕ → Option ℕ → Option (List ℕ) → Option (List ℕ) → List (List ℕ) → Parts
parts letter bits point view batching challenge closings =
    record { letter = letter; bits = bits; point = point; view = view; batching = batching; challenge = challenge; closings = closings }

parts_same : (p q : Parts) → p.letter ≡ q.letter → p.bits ≡ q.bits → p.point ≡ q.point → p.view ≡ q.view → p.batching ≡ q.batching → p.challenge ≡ q.challenge
    → p.closings ≡ q.closings → p ≡ q
parts_same p q a b c d e f g =
    let made : parts p.letter p.bits p.point p.view p.batching p.challenge p.closings ≡ parts q.letter q.bits q.point q.view q.batching q.challenge q.closings = cc in made

pub parts_determined : PartsDetermined
parts_determined text p q s t =
    parts_same p q (cc (s.level, t.level)) (cc (s.bits, t.bits)) (cc (s.point, t.point)) (number_same _ p.view q.view s.view t.view)
    (option_same p.batching q.batching (sym s.batching ∙ t.batching)) (option_same p.challenge q.challenge (sym s.challenge ∙ t.challenge)) (sym s.closings ∙ t.closings)
