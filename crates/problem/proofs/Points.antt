-- Points that texts write, one after the other.
use Rattle.std.proofs.Common.{◌≡◌, ℕ, ◌+◌, ◌<◌, List, [], ◌∷◌, ◌++◌, map, length, get_or, take, sym, ap, ◌∙◌, subst}
use Rattle.std.proofs.lemmas.List.{take_more, map-append}
use Rattle.multilinear.specs.Equality.{Point}
use Rattle.element_lists.specs.Elements.{ElementsOf}
use Rattle.problem.specs.Reading.{EachPoint}

each_push : {k : ℕ} (ts : List (List ℕ)) (ps : List (Point k)) (t : List ℕ) (p : Point k) → EachPoint ts ps → ElementsOf t p → EachPoint (ts ++ (t ∷ [])) (ps ++ (p ∷ []))
each_push [] [] t p w v = (v, tt)
each_push [] (q ∷ ps) t p w v = absurd w
each_push (u ∷ ts) [] t p w v = absurd w
each_push (u ∷ ts) (q ∷ ps) t p w v = (w.0, each_push ts ps t p w.1 v)

module _ {k : ℕ} {X : Type 0} (f : X → Point k) (ts : List (List ℕ)) (xs : List X) (i : ℕ) where
  pub each_more : (ys : List X) (x : X) (t : List ℕ) → i < length ts → t ≡ get_or ts i [] → ys ≡ xs ++ (x ∷ []) → ElementsOf t (f x) → EachPoint (take i ts) (map f xs)
      → EachPoint (take (i + 1) ts) (map f ys)
  each_more ys x t h e d w v =
      subst (λ us. EachPoint us (map f ys)) (sym (take_more ts i [] h ∙ ap (λ u. take i ts ++ (u ∷ [])) (sym e)))
      (subst (EachPoint (take i ts ++ (t ∷ []))) (sym (ap (map f) d ∙ map-append f xs (x ∷ []))) (each_push (take i ts) (map f xs) t (f x) v w))
