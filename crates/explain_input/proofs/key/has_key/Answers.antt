use Rattle.std.proofs.Common.{◌≡◌, Bool, false, ◌||◌, ◌∙◌, rules}
use borrow.Author.Tests.{tests}
use Rattle.std.proofs.Math.Bool.{or_assoc, or-false}
use Rattle.std.proofs.lemmas.Iterator.{YieldsList-from_slice}
use Rattle.std.proofs.lemmas.Iterator.Search.{any_from_yields_List}
use Rattle.explain_input.specs.Keys.{given}
use Rattle.explain_input.specs.declared.key.Key.{Key}
use Rattle.explain_input.specs.declared.key.Key.TheVariants.{Level, Bits, Point, View, Batching, Challenge, Closing}
use Rattle.explain_input.proofs.key.has_key.Goals as goal

from_left : (a b c d e f g : Bool) → (a || (b || (c || (d || (e || (f || (g || false))))))) ≡ (a || b || c || d || e || f || g)
from_left a b c d e f g = simp (or_assoc, or-false)

pub returns : goal.returns
returns c =
    let gives : Key → Bool = λ key. given key c.args.line.now in
    any_from_yields_List gives _ _ c.any.result c.any.ensures.ran (YieldsList-from_slice _ c.iter.ensures.rest) (λ x b q k. search (rules, tests))
    ∙ from_left (gives Level) (gives Bits) (gives Point) (gives View) (gives Batching) (gives Challenge) (gives Closing)
