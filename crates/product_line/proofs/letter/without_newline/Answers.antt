use Rattle.std.proofs.Common.{[], ◌∷◌}
use Rattle.std.proofs.lemmas.Bool.Decides.{Decides-eqb}
use Rattle.std.proofs.lemmas.Slice.Eq.{strip_suffix_is}
use Rattle.product_line.proofs.Endings.{stripped}
use Rattle.product_line.proofs.letter.without_newline.Goals as goal

pub returns : goal.returns
returns c =
    rw c.unwrap_or.ensures
    (stripped c.args.line c.strip_suffix.result (strip_suffix_is Decides-eqb c.args.line.now (10 ∷ []) c.strip_suffix.result c.strip_suffix.ensures.cases))
