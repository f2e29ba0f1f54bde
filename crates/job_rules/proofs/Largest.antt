-- The capacity that is found is the largest that fits.
use Rattle.std.proofs.Common.{◌≡◌, ℕ, zero, suc, ◌<◌, ◌≤◌, Bool, true, false, cond, leb, ◌&&◌, Some, None, Option, refl, ap, ◌⊎◌, ⊎_elim, inl, inr, arith}
use Rattle.std.proofs.lemmas.Bool.{leb-true, leb-false, le-leb, lt-leb, cases_lt}
use Rattle.job_rules.specs.Capacity.{budget, largest, capacity, CapacityIsLargest}

-- what two tests leave: the number that passes both, or the rest
passes : (a b : Bool) (n m : ℕ) (rest : Option ℕ) → cond (a && b) (Some n) rest ≡ Some m → ((a ≡ true) × (b ≡ true) × (n ≡ m)) ⊎ (((a ≡ false) ⊎ (b ≡ false)) × (rest ≡ Some m))
passes true true n m rest e = let s : n ≡ m = cc in inl (refl, refl, s)
passes true false n m rest e = inr (inr refl, e)
passes false b n m rest e = inr (inl refl, e)

fails : (a b : Bool) (n : ℕ) (rest : Option ℕ) → cond (a && b) (Some n) rest ≡ None → ((a ≡ false) ⊎ (b ≡ false)) × (rest ≡ None)
fails true true n rest e = let z : ◌≡◌ {A = ℕ} 0 1 = cc in absurd (omega arith)
fails true false n rest e = (inr refl, e)
fails false b n rest e = (inl refl, e)

-- a failed second test leaves nothing
neither : (a b : Bool) (o : Option ℕ) → b ≡ false → cond (a && b) o None ≡ None
neither true b o e = ap (λ c. cond c o None) e
neither false b o e = refl

module _ (k size : ℕ) where
  too_large : (m : ℕ) → k ≤ m → (leb k m ≡ false) ⊎ (leb (budget k m) size ≡ false) → size < budget k m
  too_large m h (inl f) = let l = leb-false k m f in absurd (omega arith)
  too_large m h (inr f) = leb-false (budget k m) size f

  too_large_at : (m n : ℕ) → m ≡ n → k ≤ m → (leb k n ≡ false) ⊎ (leb (budget k n) size ≡ false) → size < budget k m
  too_large_at m n s h t = let u : (leb k m ≡ false) ⊎ (leb (budget k m) size ≡ false) = rw s t in too_large m h u

  found : (n top : ℕ) → largest k size top ≡ Some n → (k ≤ n) × (n ≤ top) × (budget k n ≤ size)
  unfolding largest
  found n zero e =
      ⊎_elim (λ p. let l = leb-true k 0 p.0 in let b = leb-true (budget k 0) size p.1 in (omega (arith, p.2), omega (arith, p.2), rw (p.2) at b)) (λ q. let z : ◌≡◌ {A = ℕ} 0 1 = let e : ◌≡◌ {A = Option ℕ} None (Some n) = q.1 in cc in absurd (omega arith))
      (passes _ _ 0 n None e)
  found n (suc top) e =
      ⊎_elim (λ p. let l = leb-true k (suc top) p.0 in let b = leb-true (budget k (suc top)) size p.1 in (omega (arith, p.2), omega (arith, p.2), rw (p.2) at b))
      (λ q. let r = found n top q.1 in (r.0, omega arith, r.2)) (passes _ _ (suc top) n _ e)

  above : (n m top : ℕ) → largest k size top ≡ Some n → n < m → m ≤ top → size < budget k m
  unfolding largest
  above n m zero e l h = absurd (omega arith)
  above n m (suc top) e l h =
      ⊎_elim (λ p. absurd (omega (arith, p.2)))
      (λ q. let r = found n top q.1 in ⊎_elim (λ i. above n m top q.1 l (omega arith)) (λ i. too_large_at m (suc top) (omega arith) (omega arith) q.0) (cases_lt m (suc top)))
      (passes _ _ (suc top) n _ e)

  none : (m top : ℕ) → largest k size top ≡ None → k ≤ m → m ≤ top → size < budget k m
  unfolding largest
  none m zero e l h = too_large_at m 0 (omega arith) l (fails _ _ 0 None e).0
  none m (suc top) e l h =
      let q = fails _ _ (suc top) _ e in
      ⊎_elim (λ i. none m top q.1 l (omega arith)) (λ i. too_large_at m (suc top) (omega arith) l q.0) (cases_lt m (suc top))

  -- a capacity is found by the search, at a level that is neither too narrow nor too wide
  searched : (a b : Bool) (n : ℕ) → cond (a && b) (largest k size 24) None ≡ Some n → (a ≡ true) × (b ≡ true) × (largest k size 24 ≡ Some n)
  searched true true n e = (refl, refl, e)
  searched true false n e = let z : ◌≡◌ {A = ℕ} 0 1 = let f : ◌≡◌ {A = Option ℕ} None (Some n) = e in cc in absurd (omega arith)
  searched false b n e = let z : ◌≡◌ {A = ℕ} 0 1 = let f : ◌≡◌ {A = Option ℕ} None (Some n) = e in cc in absurd (omega arith)

  by_search : (n : ℕ) → capacity k size ≡ Some n → (3 ≤ k) × (k ≤ 7) × (largest k size 24 ≡ Some n)
  unfolding capacity
  by_search n e = let s = searched (leb 3 k) (leb k 7) n e in (leb-true 3 k s.0, leb-true k 7 s.1, s.2)

  pub is_largest : CapacityIsLargest k size
  unfolding capacity
  is_largest = record {
    fits = λ n e. let s = by_search n e in let f = found n 24 s.2 in (s.0, s.1, f.0, f.1, f.2);
    above = λ n m e. above n m 24 (by_search n e).2;
    none = λ m e wide narrow.
        let a : leb 3 k ≡ true = le-leb 3 k wide in
        let b : leb k 7 ≡ true = le-leb k 7 narrow in
        none m 24 (rw (a, b) at e);
    narrow = λ h. let a : leb 3 k ≡ false = lt-leb 3 k h in rw a refl;
    wide = λ h. let a : leb k 7 ≡ false = lt-leb k 7 h in neither (leb 3 k) (leb k 7) _ a;
  }
