use Rattle.std.proofs.Common.{take, ap₂, subst}
use Rattle.std.specs.Fmt.{HasWritten}
use Rattle.element_text.specs.Hex.{hex, element_text}
use Rattle.element_text.proofs.element.ShownDisplay.fmt.Goals as goal

pub returns-clause-writes : goal.returns-clause-writes
unfolding element_text
returns-clause-writes g c p o =
    subst (λ bs. HasWritten g.W.Write.write_str_gives c.args.f.now (hex bs) c.fmt.new.f)
    (ap₂ take c.byte_count.ensures.value c.to_bytes-bytes.ensures) (c.fmt.ensures.writes p o)
