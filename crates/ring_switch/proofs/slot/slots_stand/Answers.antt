use Rattle.ring_switch.proofs.SlotTensors.{slot}
use Rattle.ring_switch.proofs.slot.slots_stand.Goals as goal

pub returns : goal.returns
returns c = search slot
