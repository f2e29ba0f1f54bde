-- A table that is being widened, entry by entry: its entries in the lower half, and room in the upper.
use Rattle.std.proofs.Common.{◌≡◌, ℕ, ◌+◌, ◌-◌, ◌<◌, ◌≤◌, List, ◌++◌, length, get_or, set, sym, ap, ◌∙◌, arith, below_more}
use Rattle.std.proofs.lemmas.List.{get_or-map}
use Rattle.level.specs.Element.{Element, plus, zeros}
use Rattle.level.specs.Laws.{Arithmetic}
use Rattle.multilinear.specs.Lent.{lent}
use Rattle.multilinear.proofs.Lent.{lent_written, lent_kept, lent_front, lent_back}
use Rattle.equality.specs.Tables.{Widened}

-- the entries below `done` are split between the halves, and the others stand as they were
pub record Widening {k : ℕ} (A : Arithmetic k) (x : Element k) (done : ℕ) (low_before high_before low high : ℕ → Element k) : Type 0 where
  pub first : (i : ℕ) → i < done → low i ≡ plus (low_before i) (A.times x (low_before i))
  pub second : (i : ℕ) → i < done → high i ≡ A.times x (low_before i)
  pub kept : (i : ℕ) → done ≤ i → low i ≡ low_before i
  pub rest : (i : ℕ) → done ≤ i → high i ≡ high_before i

module _ {X : Type 0} {k : ℕ} (means : X → Element k) where
  module _ (A : Arithmetic k) (x : Element k) where
    -- one entry more
    pub widening_more : (done : ℕ) (low_before high_before : ℕ → Element k) (lows highs : List X) (t low high : X)
        → done < length lows → done < length highs
        → means low ≡ plus (means (get_or lows done t)) (A.times x (means (get_or lows done t))) → means high ≡ A.times x (means (get_or lows done t))
        → Widening A x done low_before high_before (lent means lows) (lent means highs)
        → Widening A x (done + 1) low_before high_before (lent means (set lows done low)) (lent means (set highs done high))
    widening_more done low_before high_before lows highs t low high h fits l r w =
        let entry : means (get_or lows done t) ≡ low_before done = sym (get_or-map means lows done t (zeros k) h) ∙ w.kept done (omega arith) in
        record {
          first = below_more _ done (λ i g. lent_kept means lows done i low (omega arith) ∙ w.first i g)
              (lent_written means lows done low h ∙ l ∙ ap (λ e. plus e (A.times x e)) entry);
          second = below_more _ done (λ i g. lent_kept means highs done i high (omega arith) ∙ w.second i g)
              (lent_written means highs done high fits ∙ r ∙ ap (A.times x) entry);
          kept = λ i g. lent_kept means lows done i low (omega arith) ∙ w.kept i (omega arith);
          rest = λ i g. lent_kept means highs done i high (omega arith) ∙ w.rest i (omega arith);
        }

    pub widening_ends : (half done : ℕ) (before lows_before highs_before lows highs : List X) → before ≡ lows_before ++ highs_before
        → length lows_before ≡ half → length lows ≡ half → half ≤ done → done ≤ half
        → Widening A x done (lent means lows_before) (lent means highs_before) (lent means lows) (lent means highs)
        → Widened A x half (lent means before) (lent means (lows ++ highs))
    widening_ends half done before lows_before highs_before lows highs parts size_before size all most w =
        let front : (i : ℕ) → i < half → lent means lows_before i ≡ lent means before i =
        λ i g. sym (ap (λ xs. lent means xs i) parts ∙ lent_front means lows_before highs_before i (omega arith)) in
        record {
          low = λ i g. lent_front means lows highs i (omega arith) ∙ w.first i (omega arith) ∙ ap (λ e. plus e (A.times x e)) (front i g);
          high = λ i g.
              let place : half + i - half ≡ i = omega arith in
              lent_back means lows highs half (half + i) size (omega arith) ∙ ap (lent means highs) place ∙ w.second i (omega arith)
              ∙ ap (A.times x) (front i g);
          rest = λ i g.
              lent_back means lows highs half i size (omega arith) ∙ w.rest (i - half) (omega arith)
              ∙ sym (ap (λ xs. lent means xs i) parts ∙ lent_back means lows_before highs_before half i size_before (omega arith));
        }
