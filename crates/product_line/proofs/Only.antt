-- A line that has an answer is not refused.
use Rattle.std.proofs.Common.{◌≡◌, ℕ, zero, suc, ◌+◌, ◌-◌, ◌*◌, ◌<◌, ◌≢◌, List, ◌∷◌, ◌++◌, length, get_or, inl, inr, refl, sym, ap, ◌∙◌, subst, arith}
use native.Mathlib.Decide.{dec_lt}
use Rattle.std.proofs.lemmas.List.{length-append, get_or_append_left, get_or-append_right}
use Rattle.level.specs.Element.{Element}
use Rattle.level.specs.Laws.{Arithmetic}
use Rattle.element_text.specs.Hex.{Writes, IsDigit, shown_bytes}
use Rattle.element_text.proofs.Parsing.{hex_digits}
use Rattle.level_name.specs.Names.{named, log_of}
use Rattle.product_line.specs.Lines.{Operands, Product, BadRest}
use Rattle.product_line.specs.Letters.{Answer, Refused, BadLine, OnlyAnAnswer}
use Rattle.product_line.specs.declared.line.LineFault.{LineFault}
use Rattle.product_line.specs.declared.line.LineFault.TheVariants.{Letter, Shape, Digit, Memory}

digit_at : {k : ℕ} {t : List ℕ} {x : Element k} → Writes t x → (i : ℕ) → i < 2 * shown_bytes k → IsDigit (get_or t i 0)
digit_at w i h = subst (λ t. IsDigit (get_or t i 0)) (sym w.text_is) (hex_digits w.bytes w.octets i (omega (arith, w.count)))

-- a character of the operands that is none of the two spaces is a digit
module _ {k : ℕ} (left right : List ℕ) (x y : Element k) (l : Writes left x) (r : Writes right y) (left_length : length left ≡ 2 * shown_bytes k) (right_length : length right ≡ 2 * shown_bytes k) where
  after_left : (i j : ℕ) → i ≡ 2 * shown_bytes k + suc j → i < length (left ++ (32 ∷ right)) → IsDigit (get_or (left ++ (32 ∷ right)) i 0)
  after_left i j e h =
      let gap : i - 2 * shown_bytes k ≡ suc j = omega arith in
      let at : get_or (left ++ (32 ∷ right)) i 0 ≡ get_or right j 0 =
      get_or-append_right left (32 ∷ right) (2 * shown_bytes k) i 0 left_length (omega arith) ∙ ap (λ n. get_or (32 ∷ right) n 0) gap in
      subst IsDigit (sym at) (digit_at r j (omega (arith, length-append left (32 ∷ right), left_length, right_length)))

  after_space : (i : ℕ) → i < length (left ++ (32 ∷ right)) → i ≢ 2 * shown_bytes k → Dec (i < 2 * shown_bytes k) → IsDigit (get_or (left ++ (32 ∷ right)) i 0)
  after_space i h m (yes s) =
      subst IsDigit (sym (get_or_append_left left (32 ∷ right) 0 i (omega (arith, left_length)))) (digit_at l i s)
  after_space i h m (no s) = after_left i (i - 2 * shown_bytes k - 1) (past (dec_lt (2 * shown_bytes k) i)) h
    where
      past : Dec (2 * shown_bytes k < i) → i ≡ 2 * shown_bytes k + suc (i - 2 * shown_bytes k - 1)
      past (yes l) = omega arith
      past (no n) = let e : i ≡ 2 * shown_bytes k = omega arith in absurd (m e)

  operands_digit : (at : ℕ) → at < length (32 ∷ (left ++ (32 ∷ right))) → at ≢ 0 → at ≢ 2 * shown_bytes k + 1 → IsDigit (get_or (32 ∷ (left ++ (32 ∷ right))) at 0)
  operands_digit zero h a b = absurd (a refl)
  operands_digit (suc i) h a b = after_space i (omega arith) (λ e. b (omega (arith, e))) (dec_lt i (2 * shown_bytes k))

-- what has a product is not refused
not_refused : {k : ℕ} (A : Arithmetic k) (rest answer : List ℕ) (f : LineFault) → Product A rest answer → f ≢ Memory → BadRest k rest f → ⊥
not_refused A rest answer Letter p m bad = bad
not_refused A rest answer (Shape digits) p m bad = bad.1 p.left p.right (subst (λ n. Operands n rest p.left p.right) (sym bad.0) p.operands)
not_refused {k} A rest answer (Digit place) p m bad =
    let o = p.operands in
    let inside : bad.at < length (32 ∷ (p.left ++ (32 ∷ p.right))) = omega (arith, bad.inside, ap length o.rest_is) in
    let d = operands_digit p.left p.right p.x p.y p.left_writes p.right_writes o.left_length o.right_length bad.at inside bad.first_space bad.second_space in
    bad.no_digit d.0 d.1 (ap (λ l. get_or l bad.at 0) o.rest_is ∙ d.2)
not_refused A rest answer Memory p m bad = m refl

module _ (line answer : List ℕ) (a : Answer line answer) where
  refused : (f : LineFault) → f ≢ Memory → Refused line f → ⊥
  refused f m r =
      let same_letter : r.letter ≡ a.letter = cc (r.line_is, a.line_is) in
      let same_rest : r.rest ≡ a.rest = cc (r.line_is, a.line_is) in
      let same_level : r.level ≡ a.level = cc (r.level_is, a.level_is, ap named same_letter) in
      not_refused _ a.rest answer f a.product m (subst (λ l. BadRest (log_of l) a.rest f) same_level (subst (λ t. BadRest (log_of r.level) t f) same_rest r.bad))

  answered : (f : LineFault) → f ≢ Memory → BadLine line f → ⊥
  answered Letter m bad = let e : ◌≡◌ {A = ℕ} 0 1 = cc (bad a.letter a.rest a.line_is, a.level_is) in omega arith
  answered (Shape digits) m bad = refused (Shape digits) m bad
  answered (Digit place) m bad = refused (Digit place) m bad
  answered Memory m bad = m refl

pub only_an_answer : OnlyAnAnswer
only_an_answer line answer reply a (inl b) = b
only_an_answer line answer reply a (inr (f, m, bad, is)) = absurd (answered line answer a f m bad)
