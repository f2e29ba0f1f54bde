use Rattle.product_line.proofs.Only.{only_an_answer}
use Rattle.product_line.proofs.letter.only_an_answer.Goals as goal

pub returns : goal.returns
returns c = only_an_answer
