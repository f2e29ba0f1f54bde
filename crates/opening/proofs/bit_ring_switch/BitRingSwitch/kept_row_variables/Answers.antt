use Rattle.std.proofs.Common.{◌≡◌, rules}
use Rattle.opening.proofs.Prefixes.{kept_by_view}
use Rattle.opening.proofs.bit_ring_switch.BitRingSwitch.kept_row_variables.Goals as goal

pub returns : goal.returns
returns g c = rw (← c.absorbed-absorbed.ensures) (kept_by_view _ _ _ (search rules))
