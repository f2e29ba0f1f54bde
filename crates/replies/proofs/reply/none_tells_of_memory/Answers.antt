use Rattle.replies.proofs.MemoryWords.{none_tells_of_memory}
use Rattle.replies.proofs.reply.none_tells_of_memory.Goals as goal

pub returns : goal.returns
returns c = none_tells_of_memory
