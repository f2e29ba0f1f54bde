-- The bit, and the doubling of a level: a low and a high half, with X·X = 1 + g·X for the high half's X and the level's generator g.
use Rattle.std.specs.Prelude.{Bool, true, false, ℕ, zero, suc, ◌+◌, ◌*◌, ◌/◌, ◌^◌}
use Rattle.std.specs.Int.Bits.{bit_and, and_lt}
use Rattle.level.specs.Element.{Element, width, cut, zeros, plus}
use Rattle.level.specs.Laws.{Arithmetic}
use Rattle.doubling.specs.Halves.{high_fits, join_fits}

-- the arithmetic of the bit: "and", 1, and the generator 1
abbrev pub bit : Arithmetic 0
bit = record {
  times = λ x y. record { number = bit_and x.number y.number; fits = and_lt 1 x.number y.number x.fits y.fits };
  unit = cut 0 1;
  root = cut 0 1;
}

-- one where the coordinate is set, and zero where it is not
abbrev pub bit_of : Bool → Element 0
bit_of true = cut 0 1
bit_of false = zeros 0

-- the first half of the coordinates
unfoldable pub low : {k : ℕ} → Element (suc k) → Element k
low {k} x = cut k x.number

-- the second half
unfoldable pub high : {k : ℕ} → Element (suc k) → Element k
high {k} x = record { number = x.number / 2 ^ width k; fits = high_fits k x.number x.fits }

-- the coordinates of one element followed by those of another
unfoldable pub join : {k : ℕ} → Element k → Element k → Element (suc k)
join {k} a b = record { number = b.number * 2 ^ width k + a.number; fits = join_fits k a.number b.number a.fits b.fits }

-- With (a, b) for low half a and high half b, and the generator g of the level below, (a, b)·(c, e) = (ac + be, ae + bc + g·be).
-- One is (1, 0), and the generator of the doubling is (0, 1).
unfoldable pub doubled : {k : ℕ} → Arithmetic k → Arithmetic (suc k)
doubled {k} A = record {
  times = λ x y.
      let be = A.times (high x) (high y) in
      join (plus (A.times (low x) (low y)) be) (plus (plus (A.times (low x) (high y)) (A.times (high x) (low y))) (A.times A.root be));
  unit = join A.unit (zeros k);
  root = join (zeros k) A.unit;
}

-- The high half of the product of (a, b) and (c, e) by one product of sums, beside ac and be: (a + b)(c + e) + ac + be + g·be.
abbrev pub high_by_sums : {k : ℕ} → Arithmetic k → Element k → Element k → Element k → Element k → Element k
high_by_sums A a b c e =
    let be = A.times b e in
    plus (plus (plus (A.times (plus a b) (plus c e)) (A.times a c)) be) (A.times A.root be)

-- the arithmetic of k doublings over the bit
unfoldable pub tower : (k : ℕ) → Arithmetic k
tower zero = bit
tower (suc k) = doubled (tower k)
