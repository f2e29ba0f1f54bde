-- What an input says, and why one is refused.
use Rattle.std.specs.Prelude.{◌≡◌, ℕ, ◌<◌, Bool, true, false, ◌≢◌, List, [], ◌∷◌, map, length, is_some, Some, None, vec_items, Option}
use Rattle.std.specs.Option.{option_map, option_to_list}
use Rattle.level_name.specs.Names.{letter_of}
use Rattle.explain_input.specs.Keys.{lines, texts, unreadable}
use Rattle.explain_input.specs.Values.{Number, NoNumber, Letter, NoLetter}
use Rattle.explain_input.specs.declared.fault.InputFault.{InputFault}
use Rattle.explain_input.specs.declared.fault.InputFault.TheVariants as fault
use Rattle.explain_input.specs.declared.input.Input.{Input}
use Rattle.explain_input.specs.declared.key.Key.{Key}
use Rattle.explain_input.specs.declared.key.Key.TheVariants.{Level, Bits, Point, View, Batching, Challenge, Closing}

-- the parts of an input
pub record Parts : Type 0 where
  pub letter : ℕ
  pub bits : List ℕ
  pub point : List ℕ
  pub view : Option ℕ
  pub batching : Option (List ℕ)
  pub challenge : Option (List ℕ)
  pub closings : List (List ℕ)

abbrev pub parts_of : Input → Parts
parts_of i = record {
  letter = letter_of i.level;
  bits = i.bits.now;
  point = i.point.now;
  view = i.view;
  batching = option_map (λ x. x.now) i.batching;
  challenge = option_map (λ x. x.now) i.challenge;
  closings = map (λ x. x.now) (vec_items i.closings);
}

-- the texts of a key that may be given once: none, or one that a relation ties to the value
abbrev pub Optional : {X : Type 0} → (List ℕ → X → Type 0) → List (List ℕ) → Option X → Type 0
Optional R ts None = ts ≡ []
Optional R ts (Some x) = (t : List ℕ) × (ts ≡ t ∷ []) × R t x

-- Each line is empty or one of a key, and the parts are the texts after the keys: those of `level`, `bits` and `point` from the one
-- line of each, those of `view`, `batching` and `challenge` from at most one, and those of `closing` from each, in their order.
pub record Says (text : List ℕ) (parts : Parts) : Type 0 where
  pub readable : unreadable 1 (lines text) ≡ None
  pub level : texts Level (lines text) ≡ (parts.letter ∷ []) ∷ []
  pub letter : Letter (parts.letter ∷ []) parts.letter
  pub bits : texts Bits (lines text) ≡ parts.bits ∷ []
  pub point : texts Point (lines text) ≡ parts.point ∷ []
  pub view : Optional Number (texts View (lines text)) parts.view
  pub batching : texts Batching (lines text) ≡ option_to_list parts.batching
  pub challenge : texts Challenge (lines text) ≡ option_to_list parts.challenge
  pub together : is_some parts.challenge ≡ true → is_some parts.batching ≡ true
  pub closings : texts Closing (lines text) ≡ parts.closings

-- the keys that are given exactly once, and at most once
abbrev pub needed : Key → Bool
needed Level = true
needed Bits = true
needed Point = true
needed View = false
needed Batching = false
needed Challenge = false
needed Closing = false

abbrev pub single : Key → Bool
single Level = true
single Bits = true
single Point = true
single View = true
single Batching = true
single Challenge = true
single Closing = false

abbrev pub BadInput : List ℕ → InputFault → Type 0
BadInput text (fault.Line number) = unreadable 1 (lines text) ≡ Some number
BadInput text (fault.Twice key) = (single key ≡ true) × (1 < length (texts key (lines text)))
BadInput text (fault.Missing key) = (needed key ≡ true) × (texts key (lines text) ≡ [])
BadInput text fault.Letter = (t : List ℕ) × (texts Level (lines text) ≡ t ∷ []) × NoLetter t
BadInput text fault.Number = (t : List ℕ) × (texts View (lines text) ≡ t ∷ []) × NoNumber t
BadInput text fault.NoBatching = (texts Batching (lines text) ≡ []) × (0 < length (texts Challenge (lines text)))
BadInput text fault.Memory = Unit {0}

-- a refusal, other than for want of memory, is of an input that says nothing
abbrev pub RefusedSayNothing : Type 0
RefusedSayNothing = (text : List ℕ) (f : InputFault) (parts : Parts) → f ≢ fault.Memory → BadInput text f → Says text parts → ⊥

-- a text gives its parts in one way
abbrev pub PartsDetermined : Type 0
PartsDetermined = (text : List ℕ) (p q : Parts) → Says text p → Says text q → p ≡ q
