-- A term that is being added to the buckets, byte by byte.
use Rattle.std.proofs.Common.{◌≡◌, ℕ, ◌+◌, ◌*◌, ◌^◌, ◌<◌, ◌≤◌, eqb, List, length, get_or, set, take, sym, ap, ◌∙◌, ap₂, ⊎_elim, add-one, arith, length-take-le, get_or-take, pow_mono, below_more}
use Rattle.std.proofs.lemmas.List.{length-take}
use Rattle.std.proofs.lemmas.Bool.{cases_eq, eq-eqb, ne_eqb}
use Rattle.level.specs.Element.{Element, plus}
use Rattle.level.specs.Bytes.{sixteen, num_bytes}
use Rattle.level.proofs.Elements.{plus_zeros}
use Rattle.level.proofs.Digits.{digit_at, bytes_are_coordinates}
use Rattle.multilinear.specs.Lent.{lent}
use Rattle.multilinear.specs.Sums.{sum, where_set}
use Rattle.multilinear.proofs.Lent.{lent_read, lent_written, lent_kept}
use Rattle.tensor_algebra.specs.Subsets.{byte}
use Rattle.tensor_algebra.specs.Tensor.{nothing}
use Rattle.tensor_algebra.specs.Buckets.{bucket}
use Rattle.tensor_algebra.proofs.Kept.{where_in, where_out}
use Rattle.products.specs.Buckets.{Empty, Added, Bucketed}

-- an element of at most 128 coordinates takes at most sixteen bytes
pub few_bytes : (k : ℕ) → k ≤ 7 → num_bytes k ≤ 16
few_bytes k h = let few : 2 ^ k ≤ 2 ^ 7 = pow_mono h in omega arith

-- b is added into one bucket of each byte below `done`
pub record Adding {k : ℕ} (values : List ℕ) (b : Element k) (done : ℕ) (before after : ℕ → Element k) : Type 0 where
  pub added : (j : ℕ) → j < done → (s : ℕ) → s < 256 → after (256 * j + s) ≡ plus (before (256 * j + s)) (where_set (eqb (get_or values j 0) s) b)
  pub left : (i : ℕ) → 256 * done ≤ i → after i ≡ before i

module _ {k : ℕ} (values : List ℕ) (b : Element k) where
  -- one byte more
  pub adding_more : {X : Type 0} (means : X → Element k) (done : ℕ) (before : ℕ → Element k) (xs : List X) (at : ℕ) (t x : X)
      → get_or values done 0 < 256 → at ≡ 256 * done + get_or values done 0 → at < length xs → t ≡ get_or xs at t → means x ≡ plus (means t) b
      → Adding values b done before (lent means xs) → Adding values b (done + 1) before (lent means (set xs at x))
  adding_more means done before xs at t x small place fits read made w =
      let v = get_or values done 0 in
      let here : (s : ℕ) → s < 256 → lent means (set xs at x) (256 * done + s) ≡ plus (before (256 * done + s)) (where_set (eqb v s) b) =
      λ s l. ⊎_elim
      (λ e.
      let there : 256 * done + s ≡ at = omega arith in
      ap (lent means (set xs at x)) there ∙ lent_written means xs at x fits ∙ made ∙ ap (λ y. plus y b) (lent_read means xs at t fits read ∙ w.left at (omega arith))
      ∙ ap (λ i. plus (before i) b) (sym there) ∙ ap (plus (before (256 * done + s))) (sym (where_in (eqb v s) b (eq-eqb v s e))))
      (λ ne.
      lent_kept means xs at (256 * done + s) x (λ e. ne (omega arith)) ∙ w.left (256 * done + s) (omega arith) ∙ sym (plus_zeros _)
      ∙ ap (plus (before (256 * done + s))) (sym (where_out (eqb v s) b (ne_eqb v s ne))))
      (cases_eq v s) in
      record {
        added = below_more _ done (λ j l s g. lent_kept means xs at (256 * j + s) x (omega arith) ∙ w.added j l s g) here;
        left = λ i g. lent_kept means xs at i x (omega arith) ∙ w.left i (omega arith);
      }

-- a byte of an element, among the first n
pub byte_small : {k : ℕ} (a : Element k) (all : List ℕ) (n j : ℕ) → all ≡ sixteen a → j < length (take n all) → get_or (take n all) j 0 < 256
byte_small a all n j shown h =
    let l : j < n = omega (arith, length-take n all) in
    omega (arith, get_or-take n all j 0 l ∙ ap (λ vs. get_or vs j 0) shown, bytes_are_coordinates.shown_octets a j)

byte_shown : {k : ℕ} (x : Element k) (i : ℕ) → i < 16 → get_or (sixteen x) i 0 ≡ byte x i
unfolding sixteen
byte_shown x i h = digit_at 16 x.number i h

-- all bytes of a
pub adding_ends : {k : ℕ} (a b : Element k) (all : List ℕ) (done n : ℕ) (before after : ℕ → Element k) → k ≤ 7 → all ≡ sixteen a → n ≡ num_bytes k
    → length (take n all) ≤ done → Adding (take n all) b done before after → Added a b before after
adding_ends {k} a b all done n before after narrow shown e h w j s l g =
    let inside : j < n = omega arith in
    let few = few_bytes k narrow in
    let size = length-take-le n all (omega (arith, ap length shown, bytes_are_coordinates.shown_length a)) in
    let value : get_or (take n all) j 0 ≡ byte a j = get_or-take n all j 0 inside ∙ ap (λ vs. get_or vs j 0) shown ∙ byte_shown a j (omega arith) in
    w.added j (omega (arith, size)) s g ∙ ap (λ v. plus (before (256 * j + s)) (where_set (eqb v s) b)) value

-- buckets that were cleared
pub cleared_empty : {k : ℕ} (held : ℕ → Element k) → held ≡ nothing → Empty held
unfolding nothing
cleared_empty held e i = ap (λ f. f i) e

module _ {k : ℕ} (a b : ℕ → Element k) where
  -- no terms
  pub bucketed_none : (held : ℕ → Element k) → Empty held → Bucketed a b 0 held
  unfolding bucket sum
  bucketed_none held e j s h l = e (256 * j + s)

  -- one term more
  pub bucketed_more : (n : ℕ) (x y : Element k) (before after : ℕ → Element k) → a n ≡ x → b n ≡ y → Added x y before after
      → Bucketed a b n before → Bucketed a b (n + 1) after
  unfolding bucket sum
  bucketed_more n x y before after ex ey step e j s h l =
      step j s h l ∙ ap (λ t. plus t (where_set (eqb (byte x j) s) y)) (e j s h l)
      ∙ ap₂ (λ p q. plus (bucket a b n j s) (where_set (eqb (byte p j) s) q)) (sym ex) (sym ey) ∙ ap (λ m. bucket a b m j s) (sym (add-one n))
