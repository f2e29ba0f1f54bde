-- What an input asks to be explained, once its texts are read at a level, and why they are not.
use Rattle.std.specs.Prelude.{◌≡◌, ℕ, ◌*◌, ◌^◌, ◌<◌, ◌≤◌, Bool, true, false, not, ◌&&◌, ◌≢◌, ◌⊎◌, List, [], ◌∷◌, length, is_some, Some, None, Option, ◌==◌, slice_index_or}
use Rattle.std.specs.Option.{option_to_list}
use Rattle.level.specs.Element.{Element}
use Rattle.element_text.specs.Hex.{shown_bytes}
use Rattle.multilinear.specs.Equality.{Point}
use Rattle.element_lists.specs.Bytes.{BytesOf, BadBytes}
use Rattle.element_lists.specs.Elements.{ElementsOf, BadElements}
use Rattle.element_lists.specs.declared.bytes.BytesFault.TheVariants as bytes
use Rattle.element_lists.specs.declared.elements.ElementsFault.TheVariants as elements
use Rattle.explain_input.specs.Inputs.{Parts}
use Rattle.explain_input.specs.declared.key.Key.{Key}
use Rattle.explain_input.specs.declared.key.Key.TheVariants as key
use Rattle.problem.specs.Task.{Task}
use Rattle.problem.specs.declared.reading.ProblemFault.{ProblemFault}
use Rattle.problem.specs.declared.reading.ProblemFault.TheVariants.{NoBatching, Bits, TooLarge, Elements, Challenge, Memory}

-- the most bytes that are explained: those of 2^20 packed elements
abbrev pub most_bytes : ℕ → ℕ
most_bytes k = 2 ^ 20 * shown_bytes k

-- a text that there may be writes the point that there may be
abbrev pub OptionalPoint : {k : ℕ} → Option (List ℕ) → Option (Point k) → Type 0
OptionalPoint None None = Unit {0}
OptionalPoint None (Some p) = ⊥
OptionalPoint (Some t) None = ⊥
OptionalPoint (Some t) (Some p) = ElementsOf t p

-- the same of one element alone
abbrev pub OptionalElement : {k : ℕ} → Option (List ℕ) → Option (Element k) → Type 0
OptionalElement None None = Unit {0}
OptionalElement None (Some x) = ⊥
OptionalElement (Some t) None = ⊥
OptionalElement (Some t) (Some x) = ElementsOf t (x ∷ [])

-- each text writes the point at its place
abbrev pub EachPoint : {k : ℕ} → List (List ℕ) → List (Point k) → Type 0
EachPoint [] [] = Unit {0}
EachPoint [] (p ∷ ps) = ⊥
EachPoint (t ∷ ts) [] = ⊥
EachPoint (t ∷ ts) (p ∷ ps) = ElementsOf t p × EachPoint ts ps

-- there are closing points, but no batching point
abbrev pub unbatched : Parts → Bool
unbatched parts = not (is_some parts.batching) && not (length parts.closings == 0)

-- the parts of an input ask for this
pub record Asks {k : ℕ} (parts : Parts) (t : Task k) : Type 0 where
  pub bits : BytesOf parts.bits t.bits
  pub small : length t.bits ≤ most_bytes k
  pub point : ElementsOf parts.point t.point
  pub view : t.view ≡ parts.view
  pub batching : OptionalPoint parts.batching t.batching
  pub challenge : OptionalElement parts.challenge t.challenge
  pub closings : EachPoint parts.closings t.closings
  pub together : unbatched parts ≡ false

-- the texts that parts give for a key, of those that are read at a level
abbrev pub texts_of : Parts → Key → List (List ℕ)
texts_of parts key.Level = []
texts_of parts key.Bits = parts.bits ∷ []
texts_of parts key.Point = parts.point ∷ []
texts_of parts key.View = []
texts_of parts key.Batching = option_to_list parts.batching
texts_of parts key.Challenge = option_to_list parts.challenge
texts_of parts key.Closing = parts.closings

-- the keys whose texts write elements
abbrev pub of_elements : Key → Bool
of_elements key.Level = false
of_elements key.Bits = false
of_elements key.Point = true
of_elements key.View = false
of_elements key.Batching = true
of_elements key.Challenge = true
of_elements key.Closing = true

-- why a text of a key is refused
abbrev pub BadText : ℕ → Key → List ℕ → ProblemFault → Type 0
BadText k at text NoBatching = ⊥
BadText k at text (Bits f) = (at ≡ key.Bits) × BadBytes text f
BadText k at text TooLarge = (at ≡ key.Bits) × ((bytes : List ℕ) × BytesOf text bytes × (most_bytes k < length bytes))
BadText k at text (Elements by f) = (at ≡ by) × (of_elements by ≡ true) × BadElements k text f
BadText k at text Challenge = (at ≡ key.Challenge) × ((xs : Point k) × ElementsOf text xs × (length xs ≢ 1))
BadText k at text Memory = Unit {0}

-- why texts of a key are refused: one of them is
abbrev pub BadAmong : ℕ → Key → List (List ℕ) → ProblemFault → Type 0
BadAmong k at ts f = (i : ℕ) × (i < length ts) × BadText k at (slice_index_or ts i []) f

-- the same of a text that there may be
abbrev pub BadOptional : ℕ → Key → Option (List ℕ) → ProblemFault → Type 0
BadOptional k at o f = BadAmong k at (option_to_list o) f

-- why an input is refused: it has closing points without a batching point, or a text of some key is refused
abbrev pub BadProblem : ℕ → Parts → ProblemFault → Type 0
BadProblem k parts f =
    ((f ≡ NoBatching) × (unbatched parts ≡ true)) ⊎ ((at : Key) × BadAmong k at (texts_of parts at) f)

-- a fault is a want of memory, and so says nothing of the input
abbrev pub wants_memory : ProblemFault → Bool
wants_memory NoBatching = false
wants_memory (Bits bytes.Odd) = false
wants_memory (Bits (bytes.Digit place)) = false
wants_memory (Bits bytes.Memory) = true
wants_memory TooLarge = false
wants_memory (Elements by (elements.Shape digits)) = false
wants_memory (Elements by (elements.Digit place)) = false
wants_memory (Elements by elements.Memory) = true
wants_memory Challenge = false
wants_memory Memory = true

-- a refusal, other than for want of memory, is of parts that ask for nothing
abbrev pub RefusedAskNothing : Type 0
RefusedAskNothing = (k : ℕ) (parts : Parts) (f : ProblemFault) (t : Task k) → wants_memory f ≡ false → BadProblem k parts f → Asks parts t → ⊥

-- parts ask for one thing at most
abbrev pub TaskDetermined : Type 0
TaskDetermined = (k : ℕ) (parts : Parts) (t u : Task k) → Asks parts t → Asks parts u → t ≡ u
