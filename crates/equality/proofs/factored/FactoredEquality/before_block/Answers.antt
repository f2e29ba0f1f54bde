use Rattle.std.proofs.Common.{◌∙◌, sym, arith, pow_pos}
use Rattle.equality.proofs.Factoring.{entry_before}
use Rattle.equality.proofs.factored.FactoredEquality.before_block.Goals as goal

pub returns-clause-later : goal.returns-clause-later
returns-clause-later g c later =
    let m = g.L.Level in
    c.last_entry.ensures ∙ sym (entry_before m.means m.arithmetic c.args.self.now.outer.now c.args.self.now.inner.now c.args.index (omega (arith, pow_pos c.args.self.now.log_block)) later)
