use Rattle.reducing.proofs.Keeping.{opening_put}
use Rattle.reducing.proofs.steps.open.Goals as goal

pub returns-clause-holds : goal.returns-clause-holds
returns-clause-holds g c =
    opening_put g.L.Level g.met.L.Level.ring _ c.args.memory.now c.open-opened.new.memory c.open-opened.auto.memory c.open-opened.ensures.before
    c.open-opened.ensures.stands c.open-opened.ensures.opening c.requires
