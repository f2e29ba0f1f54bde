use Rattle.std.proofs.Common.{◌≡◌, ◌^◌, ◌/◌, ◌%◌, length, ap, ap₂, sym, ◌∙◌, arith}
use Rattle.multilinear.specs.Lent.{lent}
use Rattle.equality.specs.Tables.{factored}
use Rattle.equality.proofs.factored.FactoredEquality.entry.Goals as goal

pub returns : goal.returns
unfolding factored
returns g c =
    let m = g.L.Level in
    let e = c.args.self.now in
    let size : length e.inner.now ≡ 2 ^ e.log_block = omega arith in
    c.product.ensures
    ∙ ap₂ (λ b j. m.arithmetic.times (lent m.means e.outer.now b) (lent m.means e.inner.now j))
    (c.split_index.ensures.block ∙ ap (λ n. c.args.index / n) (sym size))
    (c.split_index.ensures.place ∙ ap (λ n. c.args.index % n) (sym size))
