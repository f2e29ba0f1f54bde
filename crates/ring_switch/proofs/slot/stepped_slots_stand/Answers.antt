use Rattle.ring_switch.proofs.SlotTensors.{stepped_slot}
use Rattle.ring_switch.proofs.slot.stepped_slots_stand.Goals as goal

pub returns : goal.returns
returns c = search stepped_slot
