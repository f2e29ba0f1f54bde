-- The halves of a joined element, an element joined from its halves, and sums by halves.
use Rattle.std.specs.Prelude.{◌≡◌, ℕ, suc}
use Rattle.std.proofs.Common.{sym, ap₂, ◌∙◌, arith}
use Rattle.std.proofs.Math.Pow.{split, high as div-high, low as mod_low}
use Rattle.std.proofs.lemmas.Nat.{xor_block, xor_shr, xor_mod}
use Rattle.level.specs.Element.{Element, width, cut, zeros, plus}
use Rattle.level.proofs.Elements.{same}
use Rattle.doubling.specs.Doubled.{low, high, join}

pub low_join : {k : ℕ} (a b : Element k) → low (join a b) ≡ a
unfolding low join cut
low_join {k} a b = same _ _ (mod_low b.number (width k) a.fits)

pub high_join : {k : ℕ} (a b : Element k) → high (join a b) ≡ b
unfolding high join
high_join {k} a b = same _ _ (div-high b.number (width k) a.fits)

pub join_halves : {k : ℕ} (x : Element (suc k)) → join (low x) (high x) ≡ x
unfolding low high join cut
join_halves {k} x = same _ _ (split x.number (width k))

pub by_halves : {k : ℕ} (x y : Element (suc k)) → low x ≡ low y → high x ≡ high y → x ≡ y
by_halves x y p q = sym (join_halves x) ∙ ap₂ join p q ∙ join_halves y

pub low_plus : {k : ℕ} (x y : Element (suc k)) → low (plus x y) ≡ plus (low x) (low y)
unfolding low cut plus
low_plus {k} x y = same _ _ (xor_mod x.number y.number (width k))

pub high_plus : {k : ℕ} (x y : Element (suc k)) → high (plus x y) ≡ plus (high x) (high y)
unfolding high plus
high_plus {k} x y = same _ _ (xor_shr x.number y.number (width k))

pub join_plus : {k : ℕ} (a b c e : Element k) → plus (join a b) (join c e) ≡ join (plus a c) (plus b e)
unfolding join plus
join_plus {k} a b c e = same _ _ (xor_block (width k) b.number e.number a.number c.number a.fits c.fits)

pub join_zeros : (k : ℕ) → join (zeros k) (zeros k) ≡ zeros (suc k)
unfolding join zeros
join_zeros k = same _ _ (omega arith)
