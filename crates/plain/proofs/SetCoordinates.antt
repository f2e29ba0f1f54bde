-- The sum of the weights of set coordinates.
use Rattle.std.proofs.Common.{◌≡◌, ℕ, ◌/◌, ◌%◌, ◌^◌, ap, ◌∙◌}
use Rattle.level.specs.Element.{Element, width}
use Rattle.multilinear.specs.Sums.{sum, at_bit}
use Rattle.tensor_algebra.specs.Tensor.{subset_sum}

-- the sum over all of them
pub subset_all : {k : ℕ} (f : ℕ → Element k) (x : Element k) (set n : ℕ) (s : Element k) → set ≡ x.number → n ≡ width k
    → s ≡ sum n (λ v. at_bit (set / 2 ^ v % 2) (f v)) → s ≡ subset_sum f x
unfolding subset_sum
subset_all {k} f x set n s is wide e =
    e ∙ ap (λ i. sum i (λ v. at_bit (set / 2 ^ v % 2) (f v))) wide ∙ ap (λ m. sum (width k) (λ v. at_bit (m / 2 ^ v % 2) (f v))) is
