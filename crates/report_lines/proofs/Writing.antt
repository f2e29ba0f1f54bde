-- Texts that are written one after the other.
use Rattle.std.proofs.Common.{◌≡◌, ℕ, zero, suc, ◌+◌, ◌<◌, List, ◌++◌, sym, refl, ap, ◌∙◌, ap₂, add-one, arith}
use Rattle.std.proofs.lemmas.List.{append_assoc, append-nil}
use Rattle.report_lines.specs.Report.{lines_below}

pub joined : (a b c x y : List ℕ) → b ≡ a ++ x → c ≡ b ++ y → c ≡ a ++ (x ++ y)
joined a b c x y e f = f ∙ ap (λ t. t ++ y) e ∙ append_assoc a x y

-- the lines of 0, 1, .. n - 1
module _ (f : ℕ → List ℕ) (a : List ℕ) where
  pub below_none : a ≡ a ++ lines_below 0 f
  unfolding lines_below
  below_none = sym (append-nil a)

  pub below_more : (b c l : List ℕ) (i : ℕ) → b ≡ a ++ lines_below i f → c ≡ b ++ l → l ≡ f i → c ≡ a ++ lines_below (i + 1) f
  unfolding lines_below
  below_more b c l i e g h =
      joined a b c (lines_below i f) (f i) e (g ∙ ap (λ t. b ++ t) h) ∙ ap (λ n. a ++ lines_below n f) (sym (add-one i))

pub below_same : (n : ℕ) (f g : ℕ → List ℕ) → ((i : ℕ) → i < n → f i ≡ g i) → lines_below n f ≡ lines_below n g
unfolding lines_below
below_same zero f g h = refl
below_same (suc n) f g h = ap₂ (λ (s t : List ℕ). s ++ t) (below_same n f g (λ i l. h i (omega arith))) (h n (omega arith))
