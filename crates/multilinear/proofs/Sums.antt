-- Laws of finite sums.
use Rattle.std.proofs.Common.{◌≡◌, ℕ, zero, suc, ◌+◌, ◌*◌, ◌<◌, Bool, true, false, sym, refl, ap, ◌∙◌, ap₂, add-zero, add-suc, suc-mul, zero-mul, arith}
use Rattle.level.specs.Element.{Element, plus, zeros}
use Rattle.level.specs.Laws.{Arithmetic, Laws}
use Rattle.level.proofs.Elements.{plus_assoc, plus_comm, plus_zeros, zeros_plus, plus_left_comm}
use Rattle.level.proofs.Ring.{times_zeros, plus_times, zeros_times}
use Rattle.multilinear.specs.Sums.{sum, where_set, at_bit}

module _ {k : ℕ} where
  -- terms that agree below the bound give one sum
  pub sum_same : (n : ℕ) (f g : ℕ → Element k) → ((i : ℕ) → i < n → f i ≡ g i) → sum n f ≡ sum n g
  unfolding sum
  sum_same zero f g e = refl
  sum_same (suc n) f g e = ap₂ plus (sum_same n f g (λ i h. e i (omega arith))) (e n (omega arith))

  pub sum_zeros : (n : ℕ) → sum n (λ i. zeros k) ≡ zeros k
  unfolding sum
  sum_zeros zero = refl
  sum_zeros (suc n) = plus_zeros (sum n (λ i. zeros k)) ∙ sum_zeros n

  -- a sum all of whose terms are zero
  pub sum_none : (n : ℕ) (f : ℕ → Element k) → ((i : ℕ) → i < n → f i ≡ zeros k) → sum n f ≡ zeros k
  sum_none n f e = sum_same n f (λ i. zeros k) e ∙ sum_zeros n

  pub sum_plus : (n : ℕ) (f g : ℕ → Element k) → sum n (λ i. plus (f i) (g i)) ≡ plus (sum n f) (sum n g)
  unfolding sum
  sum_plus zero f g = sym (plus_zeros (zeros k))
  sum_plus (suc n) f g = ap (λ s. plus s (plus (f n) (g n))) (sum_plus n f g) ∙ simp (plus_assoc, plus_comm, plus_left_comm)

  -- the sum in two stretches
  pub sum_append : (n m : ℕ) (f : ℕ → Element k) → sum (n + m) f ≡ plus (sum n f) (sum m (λ i. f (n + i)))
  unfolding sum
  sum_append n zero f = ap (λ l. sum l f) (add-zero n) ∙ sym (plus_zeros (sum n f))
  sum_append n (suc m) f = ap (λ l. sum l f) (add-suc n m) ∙ ap (λ s. plus s (f (n + m))) (sum_append n m f) ∙ plus_assoc _ _ _

  -- the sum in rows of m terms
  pub sum_rows : (n m : ℕ) (f : ℕ → Element k) → sum (n * m) f ≡ sum n (λ r. sum m (λ c. f (r * m + c)))
  unfolding sum
  sum_rows zero m f = ap (λ l. sum l f) (zero-mul m)
  sum_rows (suc n) m f = ap (λ l. sum l f) (suc-mul n m) ∙ sum_append (n * m) m f ∙ ap (λ s. plus s (sum m (λ c. f (n * m + c)))) (sum_rows n m f)

  pub sum_exchange : (n m : ℕ) (f : ℕ → ℕ → Element k) → sum n (λ i. sum m (λ j. f i j)) ≡ sum m (λ j. sum n (λ i. f i j))
  unfolding sum
  sum_exchange zero m f = sym (sum_zeros m)
  sum_exchange (suc n) m f = ap (λ s. plus s (sum m (λ j. f n j))) (sum_exchange n m f) ∙ sym (sum_plus m (λ j. sum n (λ i. f i j)) (λ j. f n j))

  -- the first term by itself
  pub sum_first : (n : ℕ) (f : ℕ → Element k) → sum (suc n) f ≡ plus (f 0) (sum n (λ i. f (suc i)))
  unfolding sum
  sum_first zero f = zeros_plus (f 0) ∙ sym (plus_zeros (f 0))
  sum_first (suc n) f = ap (λ s. plus s (f (suc n))) (sum_first n f) ∙ plus_assoc _ _ _

  -- at a bit and under a test, by cases
  pub at_bit_plus : (b : ℕ) (x y : Element k) → at_bit b (plus x y) ≡ plus (at_bit b x) (at_bit b y)
  unfolding at_bit
  at_bit_plus zero x y = sym (plus_zeros (zeros k))
  at_bit_plus (suc b) x y = refl

  pub at_bit_zeros : (b : ℕ) → at_bit b (zeros k) ≡ zeros k
  unfolding at_bit
  at_bit_zeros zero = refl
  at_bit_zeros (suc b) = refl

  pub at_bit_sum : (b n : ℕ) (f : ℕ → Element k) → at_bit b (sum n f) ≡ sum n (λ i. at_bit b (f i))
  unfolding sum
  at_bit_sum b zero f = at_bit_zeros b
  at_bit_sum b (suc n) f = at_bit_plus b (sum n f) (f n) ∙ ap (λ s. plus s (at_bit b (f n))) (at_bit_sum b n f)

  pub where_plus : (b : Bool) (x y : Element k) → where_set b (plus x y) ≡ plus (where_set b x) (where_set b y)
  unfolding where_set
  where_plus true x y = refl
  where_plus false x y = sym (plus_zeros (zeros k))

  pub where_zeros : (b : Bool) → where_set b (zeros k) ≡ zeros k
  unfolding where_set
  where_zeros true = refl
  where_zeros false = refl

  pub where_sum : (b : Bool) (n : ℕ) (f : ℕ → Element k) → where_set b (sum n f) ≡ sum n (λ i. where_set b (f i))
  unfolding sum
  where_sum b zero f = where_zeros b
  where_sum b (suc n) f = where_plus b (sum n f) (f n) ∙ ap (λ s. plus s (where_set b (f n))) (where_sum b n f)

module _ {k : ℕ} {A : Arithmetic k} (laws : Laws A) where
  pub times_sum : (x : Element k) (n : ℕ) (f : ℕ → Element k) → A.times x (sum n f) ≡ sum n (λ i. A.times x (f i))
  unfolding sum
  times_sum x zero f = times_zeros laws x
  times_sum x (suc n) f = laws.times_plus x (sum n f) (f n) ∙ ap (λ s. plus s (A.times x (f n))) (times_sum x n f)

  pub sum_times : (x : Element k) (n : ℕ) (f : ℕ → Element k) → A.times (sum n f) x ≡ sum n (λ i. A.times (f i) x)
  unfolding sum
  sum_times x zero f = zeros_times laws x
  sum_times x (suc n) f = plus_times laws (sum n f) (f n) x ∙ ap (λ s. plus s (A.times (f n) x)) (sum_times x n f)

  pub times_at_bit : (b : ℕ) (x y : Element k) → A.times x (at_bit b y) ≡ at_bit b (A.times x y)
  unfolding at_bit
  times_at_bit zero x y = times_zeros laws x
  times_at_bit (suc b) x y = refl

  pub at_bit_times : (b : ℕ) (x y : Element k) → A.times (at_bit b x) y ≡ at_bit b (A.times x y)
  unfolding at_bit
  at_bit_times zero x y = zeros_times laws y
  at_bit_times (suc b) x y = refl

  pub times_where : (b : Bool) (x y : Element k) → A.times x (where_set b y) ≡ where_set b (A.times x y)
  unfolding where_set
  times_where true x y = refl
  times_where false x y = times_zeros laws x

  pub where_times : (b : Bool) (x y : Element k) → A.times (where_set b x) y ≡ where_set b (A.times x y)
  unfolding where_set
  where_times true x y = refl
  where_times false x y = zeros_times laws y
