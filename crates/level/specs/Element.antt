-- What an element of a level means: its coordinates, each 0 or 1.
--
-- A level of log width k has 2^k coordinates. They are held as one number, of which coordinate u is binary digit u, so an element
-- has no coordinate set past the width, and two elements with the same coordinates are equal.
use Rattle.std.specs.Prelude.{ℕ, ◌/◌, ◌%◌, ◌^◌, ◌<◌, bit_xor}
use Rattle.std.proofs.Common.{mod-lt, pow_pos}
use Rattle.std.proofs.lemmas.Nat.{xor_lt}

-- how many coordinates a level of log width k has
abbrev pub width : ℕ → ℕ
width k = 2 ^ k

pub record Element (k : ℕ) : Type 0 where
  pub number : ℕ
  pub fits : number < 2 ^ width k

-- coordinate u, 0 past the width
abbrev pub coordinate : {k : ℕ} → Element k → ℕ → ℕ
coordinate x u = x.number / 2 ^ u % 2

pub cut_fits : (k n : ℕ) → n % 2 ^ width k < 2 ^ width k
cut_fits k n = mod-lt n (pow_pos (width k))

-- the element whose coordinates are the binary digits of a number, those past the width dropped
unfoldable pub cut : (k : ℕ) → ℕ → Element k
cut k n = record { number = n % 2 ^ width k; fits = cut_fits k n }

-- zero: no coordinate is set
unfoldable pub zeros : (k : ℕ) → Element k
zeros k = record { number = 0; fits = pow_pos (width k) }

pub plus_fits : {k : ℕ} (x y : Element k) → bit_xor x.number y.number < 2 ^ width k
plus_fits {k} x y = xor_lt (width k) x.number y.number x.fits y.fits

-- the sum: the exclusive-or, coordinate by coordinate
unfoldable pub plus : {k : ℕ} → Element k → Element k → Element k
plus x y = record { number = bit_xor x.number y.number; fits = plus_fits x y }
