-- Parts ask for one thing at most, and for nothing where they are refused.
use Rattle.std.proofs.Common.{◌≡◌, ℕ, zero, suc, ◌<◌, true, false, List, [], ◌∷◌, length, get_or, Some, None, Option, inl, inr, refl, sym, ap, ap₂, ◌∙◌, subst, arith}
use Rattle.std.proofs.lemmas.Bool.{false≢true}
use Rattle.std.specs.Option.{option_to_list}
use Rattle.level.specs.Element.{Element}
use Rattle.multilinear.specs.Equality.{Point}
use Rattle.ring_switch.specs.Opening.{View}
use Rattle.element_lists.specs.Bytes.{BytesOf}
use Rattle.element_lists.specs.Elements.{ElementsOf}
use Rattle.element_lists.specs.declared.bytes.BytesFault.TheVariants as bytes
use Rattle.element_lists.specs.declared.elements.ElementsFault.TheVariants as elements
use Rattle.element_lists.proofs.Determined.{bytes_same, elements_same}
use Rattle.element_lists.proofs.Hexadecimal.{refused_write_no_bytes}
use Rattle.element_lists.proofs.Joining.{refused_write_no_elements}
use Rattle.explain_input.specs.Inputs.{Parts}
use Rattle.explain_input.specs.declared.key.Key.{Key}
use Rattle.explain_input.specs.declared.key.Key.TheVariants as key
use Rattle.problem.specs.Task.{Task}
use Rattle.problem.specs.Reading.{OptionalPoint, OptionalElement, EachPoint, of_elements, texts_of, wants_memory, Asks, BadText, RefusedAskNothing, TaskDetermined}
use Rattle.problem.specs.declared.reading.ProblemFault.{ProblemFault}
use Rattle.problem.specs.declared.reading.ProblemFault.TheVariants.{NoBatching, Bits, TooLarge, Elements, Challenge, Memory}

module _ {k : ℕ} where
  optional_point_same : (o : Option (List ℕ)) (p q : Option (Point k)) → OptionalPoint o p → OptionalPoint o q → p ≡ q
  optional_point_same None None None v w = refl
  optional_point_same None None (Some q) v w = absurd w
  optional_point_same None (Some p) q v w = absurd v
  optional_point_same (Some t) None q v w = absurd v
  optional_point_same (Some t) (Some p) None v w = absurd w
  optional_point_same (Some t) (Some p) (Some q) v w = ap Some (elements_same v w)

  optional_element_same : (o : Option (List ℕ)) (x y : Option (Element k)) → OptionalElement o x → OptionalElement o y → x ≡ y
  optional_element_same None None None v w = refl
  optional_element_same None None (Some y) v w = absurd w
  optional_element_same None (Some x) y v w = absurd v
  optional_element_same (Some t) None y v w = absurd v
  optional_element_same (Some t) (Some x) None v w = absurd w
  optional_element_same (Some t) (Some x) (Some y) v w = cc (elements_same v w)

  each_same : (ts : List (List ℕ)) (ps qs : List (Point k)) → EachPoint ts ps → EachPoint ts qs → ps ≡ qs
  each_same [] [] [] v w = refl
  each_same [] [] (q ∷ qs) v w = absurd w
  each_same [] (p ∷ ps) qs v w = absurd v
  each_same (t ∷ ts) [] qs v w = absurd v
  each_same (t ∷ ts) (p ∷ ps) [] v w = absurd w
  each_same (t ∷ ts) (p ∷ ps) (q ∷ qs) v w = ap₂ (λ (x : Point k) (l : List (Point k)). x ∷ l) (elements_same v.0 w.0) (each_same ts ps qs v.1 w.1)

  abbrev task : List ℕ → Point k → View → Option (Point k) → Option (Element k) → List (Point k) → Task k
  task bits point view batching challenge closings =
      record { bits = bits; point = point; view = view; batching = batching; challenge = challenge; closings = closings }

  task_same : (t u : Task k) → t.bits ≡ u.bits → t.point ≡ u.point → t.view ≡ u.view → t.batching ≡ u.batching → t.challenge ≡ u.challenge → t.closings ≡ u.closings → t ≡ u
  task_same t u a b c d e f =
      let made : task t.bits t.point t.view t.batching t.challenge t.closings ≡ task u.bits u.point u.view u.batching u.challenge u.closings = cc in made

pub task_determined : TaskDetermined
task_determined k parts t u a b =
    task_same t u (bytes_same a.bits b.bits) (elements_same a.point b.point) (a.view ∙ sym b.view)
    (optional_point_same parts.batching t.batching u.batching a.batching b.batching) (optional_element_same parts.challenge t.challenge u.challenge a.challenge b.challenge)
    (each_same parts.closings t.closings u.closings a.closings b.closings)

-- a text writes elements
abbrev Written : ℕ → List ℕ → Type 0
Written k text = (xs : Point k) × ElementsOf text xs

module _ {k : ℕ} where
  point_there : (o : Option (List ℕ)) (p : Option (Point k)) → OptionalPoint o p → (i : ℕ) → i < length (option_to_list o) → Written k (get_or (option_to_list o) i [])
  point_there None p v i h = absurd (omega arith)
  point_there (Some t) None v i h = absurd v
  point_there (Some t) (Some p) v zero h = (p, v)
  point_there (Some t) (Some p) v (suc i) h = absurd (omega arith)

  element_there : (o : Option (List ℕ)) (x : Option (Element k)) → OptionalElement o x → (i : ℕ) → i < length (option_to_list o) → Written k (get_or (option_to_list o) i [])
  element_there None x v i h = absurd (omega arith)
  element_there (Some t) None v i h = absurd v
  element_there (Some t) (Some x) v zero h = (x ∷ [], v)
  element_there (Some t) (Some x) v (suc i) h = absurd (omega arith)

  each_there : (ts : List (List ℕ)) (ps : List (Point k)) → EachPoint ts ps → (i : ℕ) → i < length ts → Written k (get_or ts i [])
  each_there [] ps v i h = absurd (omega arith)
  each_there (t ∷ ts) [] v i h = absurd v
  each_there (t ∷ ts) (p ∷ ps) v zero h = (p, v.0)
  each_there (t ∷ ts) (p ∷ ps) v (suc i) h = each_there ts ps v.1 i (omega arith)

module _ {k : ℕ} (parts : Parts) (t : Task k) (asks : Asks parts t) where
  -- each text of these keys writes elements
  elements_there : (at : Key) → of_elements at ≡ true → (i : ℕ) → i < length (texts_of parts at) → Written k (get_or (texts_of parts at) i [])
  elements_there key.Level e i h = absurd (false≢true e)
  elements_there key.Bits e i h = absurd (false≢true e)
  elements_there key.Point e zero h = (t.point, asks.point)
  elements_there key.Point e (suc i) h = absurd (omega arith)
  elements_there key.View e i h = absurd (false≢true e)
  elements_there key.Batching e i h = point_there parts.batching t.batching asks.batching i h
  elements_there key.Challenge e i h = element_there parts.challenge t.challenge asks.challenge i h
  elements_there key.Closing e i h = each_there parts.closings t.closings asks.closings i h

  bits_there : (at : Key) → at ≡ key.Bits → (i : ℕ) → i < length (texts_of parts at) → BytesOf (get_or (texts_of parts at) i []) t.bits
  bits_there at e i h = subst (λ a. i < length (texts_of parts a) → BytesOf (get_or (texts_of parts a) i []) t.bits) (sym e) (only i) h
    where
      only : (i : ℕ) → i < 1 → BytesOf (get_or (parts.bits ∷ []) i []) t.bits
      only zero h = asks.bits
      only (suc i) h = absurd (omega arith)

  one_there : (o : Option (List ℕ)) (x : Option (Element k)) → OptionalElement o x → (i : ℕ) → i < length (option_to_list o) → (xs : Point k) → ElementsOf (get_or (option_to_list o) i []) xs → length xs ≡ 1
  one_there None x v i h xs w = absurd (omega arith)
  one_there (Some u) None v i h xs w = absurd v
  one_there (Some u) (Some x) v zero h xs w = ap length (elements_same w v)
  one_there (Some u) (Some x) v (suc i) h xs w = absurd (omega arith)

  challenge_there : (at : Key) → at ≡ key.Challenge → (i : ℕ) → i < length (texts_of parts at) → (xs : Point k) → ElementsOf (get_or (texts_of parts at) i []) xs → length xs ≡ 1
  challenge_there at e i h =
      subst (λ a. i < length (texts_of parts a) → (xs : Point k) → ElementsOf (get_or (texts_of parts a) i []) xs → length xs ≡ 1) (sym e)
      (one_there parts.challenge t.challenge asks.challenge i) h

  among : (at : Key) (i : ℕ) → i < length (texts_of parts at) → (f : ProblemFault) → wants_memory f ≡ false → BadText k at (get_or (texts_of parts at) i []) f → ⊥
  among at i h NoBatching m bad = bad
  among at i h (Bits bytes.Odd) m bad = refused_write_no_bytes _ _ bytes.Odd (λ e. cc) bad.1 (bits_there at bad.0 i h)
  among at i h (Bits (bytes.Digit place)) m bad = refused_write_no_bytes _ _ (bytes.Digit place) (λ e. cc) bad.1 (bits_there at bad.0 i h)
  among at i h (Bits bytes.Memory) m bad = false≢true (sym m)
  among at i h TooLarge m bad = omega (arith, bad.1.2, asks.small, ap length (bytes_same bad.1.1 (bits_there at bad.0 i h)))
  among at i h (Elements by (elements.Shape digits)) m bad =
      let w = elements_there at (ap of_elements bad.0 ∙ bad.1) i h in refused_write_no_elements k _ w.0 (elements.Shape digits) (λ e. cc) bad.2 w.1
  among at i h (Elements by (elements.Digit place)) m bad =
      let w = elements_there at (ap of_elements bad.0 ∙ bad.1) i h in refused_write_no_elements k _ w.0 (elements.Digit place) (λ e. cc) bad.2 w.1
  among at i h (Elements by elements.Memory) m bad = false≢true (sym m)
  among at i h Challenge m bad = bad.1.2 (challenge_there at bad.0 i h bad.1.0 bad.1.1)
  among at i h Memory m bad = false≢true (sym m)

pub refused_ask_nothing : RefusedAskNothing
refused_ask_nothing k parts f t m (inl e) asks = false≢true (sym asks.together ∙ e.1)
refused_ask_nothing k parts f t m (inr (at, (i, h, bad))) asks = among parts t asks at i h f m bad
