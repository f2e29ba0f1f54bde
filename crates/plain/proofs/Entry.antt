-- An entry of an equality table, coordinate by coordinate from the last to the first.
use Rattle.std.proofs.Common.{◌≡◌, ℕ, zero, suc, ◌/◌, ◌%◌, ◌^◌, ◌<◌, true, false, eqb, List, [], ◌∷◌, ◌++◌, map, length, sym, refl, ap, ◌∙◌, ap₂, append_assoc, append-nil, add-one, arith}
use lib.ListN.{length-map}
use Rattle.std.specs.List.{push}
use Rattle.std.proofs.lemmas.Nat.{shr-shr}
use Rattle.level.specs.Element.{Element, plus}
use Rattle.level.specs.Laws.{Arithmetic}
use Rattle.multilinear.specs.Equality.{factor, entry, equality}

module _ {k : ℕ} (A : Arithmetic k) where
  -- the factor of a coordinate, by the test of the bit
  factor_by_test : (f x : Element k) (b : ℕ) → b < 2 → (eqb b 1 ≡ true → f ≡ x) → (eqb b 1 ≡ false → f ≡ plus A.unit x) → f ≡ factor A x b
  unfolding factor
  factor_by_test f x zero h one none = none refl
  factor_by_test f x (suc zero) h one none = one refl
  factor_by_test f x (suc (suc b)) h one none = absurd (omega (arith, h))

  -- The coordinates of a point that are left, the product of the factors of those that are done, and what is left of the index.
  pub record Factored {X : Type 0} (means : X → Element k) (point left : List X) (index : ℕ) (product : Element k) (rest : ℕ) : Type 0 where
    pub done : List X
    pub parts : point ≡ left ++ done
    pub product_is : product ≡ equality A (map means done) index
    pub rest_is : rest ≡ index / 2 ^ length done

  module _ {X : Type 0} (means : X → Element k) (point : List X) (index : ℕ) where
    -- before the last coordinate
    pub factored_none : (left : List X) (y : Element k) → left ≡ point → y ≡ A.unit → Factored means point left index y index
    unfolding entry
    factored_none left y all e = record { done = []; parts = sym (append-nil left ∙ all); product_is = e; rest_is = omega arith }

    -- one coordinate more
    pub factored_more : (left next : List X) (x : X) (f y z : Element k) (rest : ℕ) → Factored means point left index y rest → left ≡ push next x
        → (eqb (rest % 2) 1 ≡ true → f ≡ means x) → (eqb (rest % 2) 1 ≡ false → f ≡ plus A.unit (means x)) → z ≡ A.times f y
        → Factored means point next index z (rest / 2)
    unfolding entry
    factored_more left next x f y z rest s last one none made =
        let bit : rest % 2 ≡ index / 2 ^ length (map means s.done) % 2 = ap (λ n. n % 2) (s.rest_is ∙ ap (λ l. index / 2 ^ l) (sym (length-map s.done means))) in
        record {
          done = x ∷ s.done;
          parts = s.parts ∙ ap (λ l. l ++ s.done) last ∙ append_assoc next (x ∷ []) s.done;
          product_is = made ∙ ap₂ A.times (factor_by_test f (means x) (rest % 2) (omega arith) one none ∙ ap (factor A (means x)) bit) s.product_is;
          rest_is = ap (λ n. n / 2) s.rest_is ∙ shr-shr index (length s.done) 1 ∙ ap (λ n. index / 2 ^ n) (add-one (length s.done));
        }
