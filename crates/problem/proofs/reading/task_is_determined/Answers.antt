use Rattle.problem.proofs.Asking.{task_determined}
use Rattle.problem.proofs.reading.task_is_determined.Goals as goal

pub returns : goal.returns
returns c = task_determined
