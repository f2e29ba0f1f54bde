use Rattle.replies.proofs.Only.{only_the_report}
use Rattle.replies.proofs.reply.only_the_report.Goals as goal

pub returns : goal.returns
returns c = only_the_report
