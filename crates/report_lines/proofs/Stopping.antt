-- The text that a refusal stops.
use Rattle.std.proofs.Common.{◌≡◌, ℕ, ◌+◌, ◌<◌, ◌≤◌, List, [], ◌∷◌, ◌++◌, map, length, get_or, drop, Some, None, vec_items, codes, Option, Vec, sym, ap, ◌∙◌, arith}
use lib.ListN.{length-map}
use Rattle.std.specs.Fn.{Mut, Called, AlwaysReturns}
use Rattle.std.specs.declared.alloc.Global.{Global}
use Rattle.std.proofs.lemmas.List.{append_assoc, append-nil, at_drop_more, at_drop_all, get_or-map}
use Rattle.level.specs.Element.{Element}
use Rattle.level.specs.Laws.{Arithmetic}
use Rattle.element_text.specs.Hex.{element_text}
use Rattle.multilinear.specs.Equality.{Point}
use Rattle.ring_switch.specs.Opening.{kept_rows, rest}
use Rattle.ring_switch.specs.Batching.{closing_value}
use Rattle.refusals.specs.Refusals.{Refusal}
use Rattle.refusals.specs.Steps.{closing}
use Rattle.report_lines.specs.Lines.{line}
use Rattle.report_lines.specs.Batched.{Batching}
use Rattle.report_lines.specs.Report.{refusal_line, unless, closing_line, closing_text}

-- the text of a step that is refused
pub refused_text : (o : Option Refusal) (r : Refusal) (text : List ℕ) → Some r ≡ o → refusal_line r.number ≡ unless o text
refused_text o r text e = ap (λ o. unless o text) e

-- the closing points from place i on, where those before have been answered
module _ {k : ℕ} (A : Arithmetic k) (b : Batching k) (zs : List (Point k)) (total a : List ℕ) (i : ℕ) (inv : total ≡ a ++ closing_text A b (drop i zs)) where
  next : (z : Point k) (n : ℕ) → i < length zs → z ≡ get_or zs i [] → n ≡ length z
      → total ≡ a ++ unless (closing (length (rest A b.opening)) n) (closing_line A b z ++ closing_text A b (drop (i + 1) zs))
  unfolding closing_text
  next z n h read len =
      inv ∙ ap (λ t. a ++ t) (at_drop_more (closing_text A b) zs i [] h)
      ∙ ap (λ p. a ++ closing_text A b (p ∷ drop (i + 1) zs)) (sym read)
      ∙ ap (λ m. a ++ unless (closing (length (rest A b.opening)) m) (closing_line A b z ++ closing_text A b (drop (i + 1) zs))) (sym len)

  all : length zs ≤ i → a ≡ total
  unfolding closing_text
  all h = sym (inv ∙ ap (λ t. a ++ t) (at_drop_all (closing_text A b) zs i h) ∙ append-nil a)

-- the same for points that are vectors of elements, closed at a slot
module _ {X : Type 0} {k : ℕ} (means : X → Element k) (A : Arithmetic k) (b : Batching k) (vs : List (Vec X Global)) (total a : List ℕ) (i : ℕ) where
  abbrev points : Vec X Global → Point k
  points v = map means (vec_items v)

  module _ (inv : total ≡ a ++ closing_text A b (drop i (map points vs))) where
    module _ (v : Vec X Global) (h : i < length vs) (is : v ≡ get_or vs i v) (z : List X) (z_is : z ≡ vec_items v) where
      here : total ≡ a ++ unless (closing (length (rest A b.opening)) (length z)) (closing_line A b (points v) ++ closing_text A b (drop (i + 1) (map points vs)))
      here =
          next A b (map points vs) total a i inv (points v) (length z) (omega (arith, length-map vs points, h)) (ap points is ∙ sym (get_or-map points vs i v [] h))
          (ap length z_is ∙ sym (length-map (vec_items v) means))

      pub closes_refused : (r : Refusal) → Some r ≡ closing (length (rest A b.opening)) (length z) → a ++ refusal_line r.number ≡ total
      closes_refused r e = ap (λ t. a ++ t) (refused_text _ r _ e) ∙ sym here

      pub closes_more : (x : Element k) (c : List ℕ) → None ≡ closing (length (rest A b.opening)) (length z) → x ≡ closing_value A b.rows (rest A b.opening) (kept_rows b.opening) b.challenge (map means z)
          → c ≡ a ++ line (codes "closing") (element_text x) → total ≡ c ++ closing_text A b (drop (i + 1) (map points vs))
      closes_more x c e value w =
          here ∙ ap (λ o. a ++ unless o (closing_line A b (points v) ++ closing_text A b (drop (i + 1) (map points vs)))) (sym e)
          ∙ sym (append_assoc a (closing_line A b (points v)) (closing_text A b (drop (i + 1) (map points vs))))
          ∙ ap (λ y. (a ++ line (codes "closing") (element_text y)) ++ closing_text A b (drop (i + 1) (map points vs)))
          (sym (value ∙ ap (λ l. closing_value A b.rows (rest A b.opening) (kept_rows b.opening) b.challenge (map means l)) z_is))
          ∙ ap (λ t. t ++ closing_text A b (drop (i + 1) (map points vs))) (sym w)

    pub closing_all : length vs ≤ i → a ≡ total
    closing_all h = all A b (map points vs) total a i inv (omega (arith, length-map vs points, h))

-- a closure that answers so at each call, after one call
pub answers_next : {F X R : Type 0} (g : Mut F X R) (P : X → R → Type 0) {f f' : F} {a : X} {r : R} → Called g f a r f' → AlwaysReturns g P f → P a r × AlwaysReturns g P f'
answers_next g P {a = a} called always = ((always.at (a ∷ []) _ _ called).0, record { at = λ xs. (always.at (a ∷ xs) _ _ called).1 })
