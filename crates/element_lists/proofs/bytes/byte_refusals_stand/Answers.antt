use Rattle.element_lists.proofs.Hexadecimal.{refused_write_no_bytes}
use Rattle.element_lists.proofs.bytes.byte_refusals_stand.Goals as goal

pub returns : goal.returns
returns c = refused_write_no_bytes
