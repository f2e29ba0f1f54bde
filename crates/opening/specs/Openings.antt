-- The opening that the code's type stands for, by what its elements mean.
use Rattle.std.specs.Prelude.{map}
use Rattle.level.specs.declared.level.Level.{Ghosts}
use Rattle.ring_switch.specs.Opening.{Opening}
use Rattle.opening.specs.declared.bit_ring_switch.BitRingSwitch.{BitRingSwitch}

abbrev pub opening_of : {X : Type 0} (L : Ghosts X) → BitRingSwitch X L → Opening L.log
opening_of L o = record { point = map L.means o.point.now; view = o.view }
