use Rattle.product_line.proofs.MemoryWords.{none_tells_of_memory}
use Rattle.product_line.proofs.letter.none_tells_of_memory.Goals as goal

pub returns : goal.returns
returns c = none_tells_of_memory
