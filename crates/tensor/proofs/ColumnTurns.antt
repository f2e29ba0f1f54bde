-- Columns scaled through their rows, and equality factors made of them.
use Rattle.std.proofs.Common.{◌≡◌, ℕ, ◌+◌, ◌<◌, ◌≤◌, List, length, get_or, sym, ap, ◌∙◌, ap₂, add-one, arith}
use mathlib.Core.Path.{fun_ext}
use Rattle.level.specs.Element.{Element, width, coordinate, plus, zeros}
use Rattle.level.specs.Laws.{Arithmetic, Laws}
use Rattle.level.proofs.Elements.{plus_assoc, plus_comm, plus_zeros}
use Rattle.level.proofs.Ring.{plus_times, unit_times}
use Rattle.multilinear.specs.Lent.{lent}
use Rattle.multilinear.specs.Sums.{sum, at_bit}
use Rattle.multilinear.proofs.Lent.{lent_read}
use Rattle.multilinear.proofs.Sums.{at_bit_zeros}
use Rattle.tensor_algebra.specs.Subsets.{basis}
use Rattle.tensor_algebra.specs.Tensor.{Tensor, nothing, exterior, add, scale_rows, scale_columns, equality_factor}
use Rattle.tensor_algebra.proofs.BucketSums.{scale_columns_rows}
use Rattle.tensor.proofs.Tensors.{nothing_add}

-- a zero row adds nothing
pub zero_row : {k : ℕ} (t : Tensor k) (x y z : Element k) → z ≡ zeros k → y ≡ z → t ≡ add t (exterior x y)
unfolding add exterior
zero_row t x y z none e =
    fun_ext (λ u. sym (ap (λ w. plus (t u) (at_bit (coordinate x u) w)) (e ∙ none) ∙ ap (plus (t u)) (at_bit_zeros (coordinate x u)) ∙ plus_zeros (t u)))

module _ {X : Type 0} {k : ℕ} (means : X → Element k) where
  -- the scaled rows of the tensor ys, the first i of them, added to t
  module _ (A : Arithmetic k) (a : Element k) (t : Tensor k) (ys : List X) where
    unfoldable pub rows_added : ℕ → Tensor k
    rows_added i v = plus (t v) (sum i (λ j. exterior (A.times a (basis k j)) (lent means ys j) v))

    pub rows_none : t ≡ rows_added 0
    unfolding rows_added sum
    rows_none = fun_ext (λ v. sym (plus_zeros (t v)))

    pub rows_more : (i : ℕ) (y : X) (s r : Tensor k) → i < length ys → y ≡ get_or ys i y
        → r ≡ add s (exterior (A.times a (basis k i)) (means y)) → s ≡ rows_added i → r ≡ rows_added (i + 1)
    unfolding rows_added sum add
    rows_more i y s r h read made e =
        made ∙ ap₂ (λ p w v. plus (p v) (exterior (A.times a (basis k i)) w v)) e (lent_read means ys i y h read)
        ∙ fun_ext (λ v. plus_assoc _ _ _) ∙ ap rows_added (sym (add-one i))

    pub rows_all : Laws A → (i : ℕ) (s : Tensor k) → length ys ≡ width k → i ≤ length ys → length ys ≤ i → s ≡ rows_added i
        → s ≡ add t (scale_columns A a (lent means ys))
    unfolding rows_added add
    rows_all laws i s wide below above e =
        let all : i ≡ width k = omega arith in
        e ∙ ap rows_added all ∙ fun_ext (λ v. ap (plus (t v)) (sym (scale_columns_rows laws a (lent means ys) v)))

  -- columns scaled through a scratch that held nothing
  scaled_from_nothing : (A : Arithmetic k) (a : Element k) (t : Tensor k) (s r : List X) → lent means s ≡ nothing
      → lent means r ≡ add (lent means s) (scale_columns A a t) → lent means r ≡ scale_columns A a t
  scaled_from_nothing A a t s r none made = made ∙ ap (λ x. add x (scale_columns A a t)) none ∙ nothing_add _

  pub columns_scaled : (A : Arithmetic k) (a : Element k) (xs ws s r os zs : List X) → ws ≡ xs → lent means s ≡ nothing
      → lent means r ≡ add (lent means s) (scale_columns A a (lent means ws)) → os ≡ r → zs ≡ os → lent means zs ≡ scale_columns A a (lent means xs)
  columns_scaled A a xs ws s r os zs same none made other copied =
      ap (lent means) (copied ∙ other) ∙ scaled_from_nothing A a (lent means ws) s r none made ∙ ap (λ ys. scale_columns A a (lent means ys)) same

  -- the equality factor of a and b: every row times one plus b, and the columns times a added
  pub factor_made : {A : Arithmetic k} → Laws A → (a b c : Element k) (xs ws s r os ys zs : List X) → ws ≡ xs → lent means s ≡ nothing
      → lent means r ≡ add (lent means s) (scale_columns A a (lent means ws)) → os ≡ r → c ≡ plus A.unit b
      → lent means ys ≡ scale_rows A c (lent means xs) → lent means zs ≡ add (lent means ys) (lent means os)
      → lent means zs ≡ equality_factor A a b (lent means xs)
  unfolding equality_factor add scale_rows
  factor_made {A} laws a b c xs ws s r os ys zs same none made other one_more scaled summed =
      let t = lent means xs in
      let columns = ap (lent means) other ∙ scaled_from_nothing A a (lent means ws) s r none made ∙ ap (λ ys. scale_columns A a (lent means ys)) same in
      summed
      ∙ fun_ext (λ u.
      ap₂ (λ p q. plus (p u) (q u)) scaled columns ∙ ap (λ x. plus (A.times x (t u)) (scale_columns A a t u)) one_more
      ∙ ap (λ x. plus x (scale_columns A a t u)) (plus_times laws A.unit b (t u) ∙ ap (λ x. plus x (A.times b (t u))) (unit_times laws (t u)))
      ∙ plus_assoc (t u) (A.times b (t u)) (scale_columns A a t u) ∙ ap (plus (t u)) (plus_comm (A.times b (t u)) (scale_columns A a t u))
      ∙ sym (plus_assoc (t u) (scale_columns A a t u) (A.times b (t u))))
