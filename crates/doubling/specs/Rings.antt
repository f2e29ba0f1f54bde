-- The bit shows the laws of a level, and so does the doubling of any level, whatever its generator.
use Rattle.std.specs.Prelude.{◌≡◌, ℕ, zero, suc}
use Rattle.std.proofs.Common.{◌∙◌, mod-eq_of_lt}
use Rattle.std.proofs.lemmas.Nat.{and_comm, and_mask}
use Rattle.level.specs.Element.{Element, zeros, plus, cut}
use Rattle.level.specs.Laws.{Arithmetic, Laws}
use Rattle.level.proofs.Ands.{and_assoc, and_xor}
use Rattle.level.proofs.Elements.{same, plus_assoc, plus_comm, plus_zeros, zeros_plus, plus_left_comm}
use Rattle.level.proofs.Ring.{times_left_comm, times_zeros, plus_times}
use Rattle.doubling.specs.Doubled.{bit, low, high, doubled, tower}
use Rattle.doubling.specs.Join.{low_join, high_join, by_halves, low_plus, high_plus}

pub bit_laws : Laws bit
unfolding plus cut
bit_laws = record {
  times_assoc = λ x y z. same _ _ (and_assoc x.number y.number z.number);
  times_comm = λ x y. same _ _ (and_comm x.number y.number);
  times_plus = λ x y z. same _ _ (and_xor x.number y.number z.number);
  times_unit = λ x. same _ _ (and_mask x.number 1 ∙ mod-eq_of_lt x.fits);
}

pub low_doubled : {k : ℕ} (A : Arithmetic k) (x y : Element (suc k)) → low ((doubled A).times x y) ≡ plus (A.times (low x) (low y)) (A.times (high x) (high y))
unfolding doubled
low_doubled A x y = low_join _ _

pub high_doubled : {k : ℕ} (A : Arithmetic k) (x y : Element (suc k)) → high ((doubled A).times x y) ≡ plus (plus (A.times (low x) (high y)) (A.times (high x) (low y))) (A.times A.root (A.times (high x) (high y)))
unfolding doubled
high_doubled A x y = high_join _ _

module _ {k : ℕ} {A : Arithmetic k} (laws : Laws A) where
  low_unit : low (doubled A).unit ≡ A.unit
  unfolding doubled
  low_unit = low_join _ _

  high_unit : high (doubled A).unit ≡ zeros k
  unfolding doubled
  high_unit = high_join _ _

  pub doubled_laws : Laws (doubled A)
  doubled_laws = record {
    times_assoc = λ x y z. by_halves _ _
        (simp (low_doubled, high_doubled, laws.times_plus, plus_times laws, laws.times_assoc, laws.times_comm, times_left_comm laws, plus_assoc, plus_comm, plus_left_comm))
        (simp (low_doubled, high_doubled, laws.times_plus, plus_times laws, laws.times_assoc, laws.times_comm, times_left_comm laws, plus_assoc, plus_comm, plus_left_comm));
    times_comm = λ x y. by_halves _ _ (simp (low_doubled, laws.times_comm)) (simp (high_doubled, laws.times_comm, plus_comm));
    times_plus = λ x y z. by_halves _ _
        (simp (low_doubled, low_plus, high_plus, laws.times_plus, plus_assoc, plus_comm, plus_left_comm))
        (simp (high_doubled, low_plus, high_plus, laws.times_plus, plus_assoc, plus_comm, plus_left_comm));
    times_unit = λ x. by_halves _ _
        (simp (low_doubled, low_unit, high_unit, laws.times_unit, times_zeros laws, plus_zeros))
        (simp (high_doubled, low_unit, high_unit, laws.times_unit, times_zeros laws, plus_zeros, zeros_plus));
  }

-- every pile of doublings over the bit
pub tower_laws : (k : ℕ) → Laws (tower k)
unfolding tower
tower_laws zero = bit_laws
tower_laws (suc k) = doubled_laws (tower_laws k)
