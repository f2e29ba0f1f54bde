use Rattle.closing.proofs.Ends.{closing_multilinear_of}
use Rattle.closing.proofs.closing.closing_value.Goals as goal

pub returns-clause-multilinear : goal.returns-clause-multilinear
returns-clause-multilinear g c =
    closing_multilinear_of g.L.Level g.met.L.Level.ring c.args.batch.now c.args.z.now _ c.requires.point c.value_through-value.ensures
