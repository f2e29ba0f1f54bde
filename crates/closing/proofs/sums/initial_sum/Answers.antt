use Rattle.std.proofs.Common.{◌∙◌, ap}
use Rattle.std.specs.Option.{option_map}
use Rattle.level.specs.Element.{plus}
use Rattle.opening.specs.Batches.{rows_of}
use Rattle.closing.proofs.Ends.{initial_alone, initial_challenged}
use Rattle.closing.proofs.sums.initial_sum.Goals as goal

pub returns-in-None : goal.returns-in-None
returns-in-None g c =
    let m = g.L.Level in
    initial_alone m.arithmetic (rows_of m c.args.batch.now) _ _ _ _ _ (ap (option_map m.means) c.in-None.is) c.batch_rows-sum.ensures

pub returns-in-Some : goal.returns-in-Some
returns-in-Some g c =
    let m = g.L.Level in
    initial_challenged m.arithmetic (rows_of m c.args.batch.now) _ _ _ _ _ _ _ (ap (option_map m.means) c.in-Some.is) c.batch_rows-sum.ensures
    (c.add.ensures ∙ ap (plus _) c.successor_rows.ensures)
