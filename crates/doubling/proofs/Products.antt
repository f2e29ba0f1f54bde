-- The product of a doubling by three products of the level below, and its product by its generator.
use mathlib.Core.Path.{◌≡◌}
use Prim.Native.Nat.{ℕ}
use Rattle.level.specs.Element.{Element, plus}
use Rattle.level.specs.Laws.{Arithmetic, Laws}
use Rattle.level.proofs.Elements.{plus_assoc, plus_comm, zeros_plus, plus_left_comm, plus_cancel}
use Rattle.doubling.specs.Doubled.{join, doubled, high_by_sums}
use Rattle.doubling.specs.Join.{low_join, high_join}
use Rattle.level.proofs.Ring.{plus_times, unit_times, zeros_times}

module _ {k : ℕ} {A : Arithmetic k} (laws : Laws A) where
  sums : (a b c e : Element k)
      → high_by_sums A a b c e ≡ plus (plus (A.times a e) (A.times b c)) (A.times A.root (A.times b e))
  sums a b c e = simp (laws.times_plus, plus_times laws, plus_assoc, plus_comm, plus_left_comm, plus_cancel)

  pub by_sums : (a b c e : Element k) → join (plus (A.times a c) (A.times b e)) (high_by_sums A a b c e) ≡ (doubled A).times (join a b) (join c e)
  unfolding doubled
  by_sums a b c e = simp (low_join, high_join, sums)

  pub by_generator : (a b : Element k) → join b (plus a (A.times A.root b)) ≡ (doubled A).times (doubled A).root (join a b)
  unfolding doubled
  by_generator a b = simp (low_join, high_join, zeros_times laws, unit_times laws, zeros_plus)
