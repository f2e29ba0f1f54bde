-- One turn of the loops over rows, and what they end with.
use Rattle.std.proofs.Common.{◌≡◌, ◌==◌, ℕ, zero, suc, ◌+◌, ◌-◌, ◌*◌, ◌/◌, ◌%◌, ◌^◌, ◌<◌, ◌≤◌, min, List, length, get_or, take, drop, length-take-le, length-drop, set, sym, ap, ◌∙◌, ap₂, ⊎_elim, arith, pow_mono}
use borrow.Rule.Slice.PartMut.{put_mid}
use Rattle.std.proofs.lemmas.Nat.{shr-shr}
use Rattle.std.proofs.lemmas.Bool.{cases_lt}
use Rattle.coordinates.specs.SetPlaces.{NextSet}
use Rattle.level.specs.Bytes.{sixteen, num_bytes}
use Rattle.level.specs.Element.{Element, width, coordinate, plus}
use Rattle.level.specs.Laws.{Arithmetic, Laws}
use Rattle.level.proofs.Digits.{bytes_are_coordinates}
use Rattle.level.proofs.Elements.{plus_zeros}
use Rattle.multilinear.specs.Lent.{lent}
use Rattle.multilinear.specs.Sums.{at_bit, where_set}
use Rattle.multilinear.proofs.Lent.{lent_read, lent_past}
use Rattle.tensor_algebra.specs.Tensor.{nothing, exterior, add, one, scale_rows}
use Rattle.multilinear.proofs.Places.{Written, before_part, in_part, past_part, of_part, written_read, written_more, written_all}
use Rattle.tensor.proofs.Tensors.{add_past, scale_rows_past, exterior_past, nothing_add, digit_set}

-- the bytes of an element hold all its coordinates
coordinates_held : (k : ℕ) → width k ≤ 8 * num_bytes k
coordinates_held zero = omega arith
coordinates_held (suc zero) = omega arith
coordinates_held (suc (suc zero)) = omega arith
coordinates_held (suc (suc (suc k))) = let power : 2 ^ suc (suc (suc k)) ≡ 8 * 2 ^ k = omega arith in omega arith

-- the coordinates of byte j stand in an element
pub byte_fits : (k j : ℕ) → k ≤ 7 → j < num_bytes k → (8 * j + min (width k) 8 ≤ width k) × (j < 16)
byte_fits zero j h l = (omega arith, omega arith)
byte_fits (suc zero) j h l = (omega arith, omega arith)
byte_fits (suc (suc zero)) j h l = (omega arith, omega arith)
byte_fits (suc (suc (suc k))) j h l =
    let short : k ≤ 4 = omega arith in
    let few : 2 ^ k ≤ 16 = pow_mono short in
    let power : 2 ^ suc (suc (suc k)) ≡ 8 * 2 ^ k = omega arith in
    let whole : width (suc (suc (suc k))) ≡ 8 * 2 ^ k = power in
    (omega arith, omega arith)

-- the digits left after one more is taken off
pub halved : (n i rest : ℕ) → rest ≡ n / 2 ^ i → rest / 2 ≡ n / 2 ^ (i + 1)
halved n i rest e = ap (λ m. m / 2) e ∙ shr-shr n i 1

module _ {X : Type 0} {k : ℕ} (means : X → Element k) where
  -- rows added, row by row
  pub added_more : (ys xs zs : List X) (i : ℕ) (d y z : X) → i < length zs → i < length ys → y ≡ get_or ys i y
      → means z ≡ plus (means (get_or zs i d)) (means y)
      → Written means (add (lent means xs) (lent means ys)) xs zs i → Written means (add (lent means xs) (lent means ys)) xs (set zs i z) (i + 1)
  unfolding add
  added_more ys xs zs i d y z h l other made w =
      let f = add (lent means xs) (lent means ys) in
      written_more means f xs zs i z h (made ∙ ap₂ plus (written_read means f xs zs i d h w) (lent_read means ys i y l other)) w

  pub added_all : (ys xs zs : List X) (i : ℕ) → length ys ≡ length xs → length xs ≤ i
      → Written means (add (lent means xs) (lent means ys)) xs zs i → lent means zs ≡ add (lent means xs) (lent means ys)
  added_all ys xs zs i same h w =
      written_all means _ xs zs i h (λ j l. add_past _ _ j (lent_past means xs j l) (lent_past means ys j (omega arith))) w

  -- every row times b
  module _ (A : Arithmetic k) (b : Element k) where
    pub scaled_more : (xs zs : List X) (i : ℕ) (d y : X) → i < length zs → means y ≡ A.times b (means (get_or zs i d))
        → Written means (scale_rows A b (lent means xs)) xs zs i → Written means (scale_rows A b (lent means xs)) xs (set zs i y) (i + 1)
    unfolding scale_rows
    scaled_more xs zs i d y h made w =
        let f = scale_rows A b (lent means xs) in
        written_more means f xs zs i y h (made ∙ ap (A.times b) (written_read means f xs zs i d h w)) w

    pub scaled_all : Laws A → (xs zs : List X) (i : ℕ) → length xs ≤ i
        → Written means (scale_rows A b (lent means xs)) xs zs i → lent means zs ≡ scale_rows A b (lent means xs)
    scaled_all laws xs zs i h w = written_all means _ xs zs i h (λ j l. scale_rows_past laws b _ j (lent_past means xs j l)) w

  -- b added where the binary digits of n are set
  unfoldable pub picked : ℕ → Element k → List X → ℕ → Element k
  picked n b xs u = plus (lent means xs u) (at_bit (n / 2 ^ u % 2) b)

  -- up to the next set digit nothing is added
  pub picked_to : (n : ℕ) (b : Element k) (xs zs : List X) (i next : ℕ) → NextSet n i next
      → Written means (picked n b xs) xs zs i → Written means (picked n b xs) xs zs next
  unfolding picked at_bit
  picked_to n b xs zs i next s w = record {
    done = λ j h. ⊎_elim (w.done j)
        (λ l. w.rest j l ∙ sym (ap (λ c. plus (lent means xs j) (at_bit c b)) (s.clear j l h) ∙ plus_zeros (lent means xs j))) (cases_lt j i);
    rest = λ j h. w.rest j (omega (arith, s.reached));
  }

  -- at a set digit b is added
  pub picked_more : (n : ℕ) (b : Element k) (xs zs : List X) (i : ℕ) (x y : X) → i < length zs → x ≡ get_or zs i x → n / 2 ^ i % 2 ≡ 1
      → means y ≡ plus (means x) b → Written means (picked n b xs) xs zs i → Written means (picked n b xs) xs (set zs i y) (i + 1)
  unfolding picked at_bit
  picked_more n b xs zs i x y h read one made w =
      let f = picked n b xs in
      written_more means f xs zs i y h
      (made ∙ ap₂ plus (ap means read ∙ written_read means f xs zs i x h w) (sym (ap (λ c. at_bit c b) one))) w

  -- at each place b is added where its digit is set
  pub chosen_more : (n : ℕ) (b : Element k) (xs zs : List X) (i rest : ℕ) (x y : X) → i < length zs
      → means y ≡ plus (means (get_or zs i x)) (where_set (rest % 2 == 1) b) → rest ≡ n / 2 ^ i
      → Written means (picked n b xs) xs zs i → Written means (picked n b xs) xs (set zs i y) (i + 1)
  unfolding picked
  chosen_more n b xs zs i rest x y h made e w =
      let f = picked n b xs in
      written_more means f xs zs i y h
      (made ∙ ap₂ plus (written_read means f xs zs i x h w) (digit_set (rest % 2) b (omega arith) ∙ ap (λ m. at_bit (m % 2) b) e)) w

  pub picked_all : (n : ℕ) (b : Element k) (xs zs : List X) (i u : ℕ) → u < i → Written means (picked n b xs) xs zs i
      → lent means zs u ≡ plus (lent means xs u) (at_bit (n / 2 ^ u % 2) b)
  unfolding picked
  picked_all n b xs zs i u h w = w.done u h

  -- the rows of byte j of a, count rows from 8j on, which hold ps afterwards
  pub byte_more : (a b : Element k) (xs ys ps : List X) (j start count n : ℕ) → k ≤ 7 → length xs ≡ width k → length ys ≡ length xs
      → start ≡ 8 * j → count ≡ min (width k) 8 → length ps ≡ count → j < num_bytes k → n ≡ get_or (sixteen a) j 0
      → Written means (add (lent means xs) (exterior a b)) xs ys (8 * j)
      → ((t : ℕ) → t < length (take count (drop start ys)) → lent means ps t ≡ plus (lent means (take count (drop start ys)) t) (at_bit (n / 2 ^ t % 2) b))
      → Written means (add (lent means xs) (exterior a b)) xs (put_mid start count ys ps) (8 * (j + 1))
  unfolding add exterior
  byte_more a b xs ys ps j start count n narrow wide same from few long low byte w here =
      let fits = byte_fits k j narrow low in
      let room : start ≤ length ys = omega (arith, fits.0) in
      let zs = put_mid start count ys ps in
      record {
        done = λ u h. ⊎_elim
            (λ l. before_part means start count ys ps u (omega (arith, from)) room ∙ w.done u l)
            (λ l. ⊎_elim
            (λ within. let t = u - start in let e : start + t ≡ u = omega (arith, from) in let inside : t < count = omega arith in
            ap (lent means zs) (sym e) ∙ in_part means start count ys ps t (omega (arith, long)) room
            ∙ here t (omega (arith, length-take-le count (drop start ys) (omega (arith, length-drop start ys, fits.0))))
            ∙ ap₂ plus (of_part means start count ys t inside ∙ ap (lent means ys) e ∙ w.rest u l)
            (ap (λ m. at_bit m b) (ap (λ m. m / 2 ^ t % 2) byte ∙ bytes_are_coordinates.shown a j t fits.1 (omega arith) ∙ ap (coordinate a) (omega (arith, from)))))
            (λ past. past_part means start count ys ps u (omega (arith, from)) long room ∙ w.rest u l ∙ lent_past means xs u (omega (arith, few, wide))
            ∙ sym (add_past (lent means xs) (exterior a b) u (lent_past means xs u (omega (arith, few, wide))) (exterior_past a b u (omega (arith, few)))))
            (cases_lt u (8 * j + count)))
            (cases_lt u (8 * j));
        rest = λ u h. past_part means start count ys ps u (omega (arith, few, from)) long room ∙ w.rest u (omega arith);
      }

  pub bytes_all : (a b : Element k) (xs zs : List X) (j count : ℕ) → length xs ≡ width k → count ≡ num_bytes k → count ≤ j
      → Written means (add (lent means xs) (exterior a b)) xs zs (8 * j) → lent means zs ≡ add (lent means xs) (exterior a b)
  bytes_all a b xs zs j count wide all h w =
      written_all means _ xs zs (8 * j) (omega (arith, coordinates_held k)) (λ u l. add_past _ _ u (lent_past means xs u l) (exterior_past a b u (omega arith))) w

  -- one ⊗ one, added to nothing
  pub one_made : (A : Arithmetic k) (xs ys : List X) (a b : Element k) → lent means xs ≡ nothing → a ≡ A.unit → b ≡ A.unit
      → lent means ys ≡ add (lent means xs) (exterior a b) → lent means ys ≡ one A
  unfolding one
  one_made A xs ys a b none e f made = made ∙ ap (λ t. add t (exterior a b)) none ∙ nothing_add (exterior a b) ∙ ap₂ exterior e f
