use Rattle.std.proofs.Common.{◌≡◌, ℕ, suc, ◌+◌, ◌-◌, ◌<◌, ◌≤◌, List, [], ◌∷◌, ◌++◌, length, take, set, sym, ap, ◌∙◌, arith}
use Rattle.std.proofs.lemmas.List.{append_assoc, append-nil, take_all, take_more_set}
use Rattle.byte_levels.specs.PolynomialSteps.{xtime, multiples}
use Rattle.byte_levels.proofs.polynomial_byte.multiples.Goals as goal

more : (all ps : List ℕ) (i b next : ℕ) → i < length ps → i < 8 → next ≡ xtime b → all ≡ take i ps ++ multiples (8 - i) b
    → all ≡ take (i + 1) (set ps i b) ++ multiples (8 - (i + 1)) next
more all ps i b next h l n e =
    let s : 8 - i ≡ suc (8 - (i + 1)) = omega arith in
    let rest = multiples (8 - (i + 1)) (xtime b) in
    e ∙ ap (λ m. take i ps ++ multiples m b) s ∙ sym (append_assoc (take i ps) (b ∷ []) rest)
    ∙ ap (λ t. t ++ rest) (sym (take_more_set ps i b h)) ∙ ap (λ m. take (i + 1) (set ps i b) ++ multiples (8 - (i + 1)) m) (sym n)

done : (all ps : List ℕ) (i b : ℕ) → length ps ≤ i → 8 ≤ i → all ≡ take i ps ++ multiples (8 - i) b → ps ≡ all
done all ps i b h l e =
    let z : 8 - i ≡ 0 = omega arith in
    sym (e ∙ ap (λ m. take i ps ++ multiples m b) z ∙ append-nil (take i ps) ∙ take_all i ps h)

pub loop-product-preserved : goal.loop-product-preserved
loop-product-preserved c = more _ c.loop-product.product-items c.loop-product.product-index c.loop-product.next _ (omega arith) (omega arith) c.xtime-next.ensures c.loop-product.invariant

pub returns : goal.returns
returns c = done _ c.loop-product.product-items c.loop-product.product-index c.loop-product.next (omega arith) (omega arith) c.loop-product.invariant
