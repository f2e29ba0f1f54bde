-- Eight coordinates that are multiplied each by itself.
use Rattle.std.specs.Int.Bits.{bit_and, and_lt}
use Rattle.level.specs.Element.{cut}
use Rattle.level.specs.Laws.{Arithmetic}

-- the product is the "and", coordinate by coordinate, one has all coordinates set, and the generator is coordinate 4 alone
abbrev pub coordinatewise : Arithmetic 3
coordinatewise = record {
  times = λ x y. record { number = bit_and x.number y.number; fits = and_lt 8 x.number y.number x.fits y.fits };
  unit = cut 3 255;
  root = cut 3 16;
}
