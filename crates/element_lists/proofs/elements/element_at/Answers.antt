use Rattle.std.proofs.Common.{◌≡◌, ◌+◌, ◌-◌, ◌*◌, ◌%◌, ◌<◌, drop, take, refl, ◌∙◌, subst, arith, rules}
use Rattle.std.proofs.lemmas.Nat.{mod-mul-add}
use Rattle.std.proofs.lemmas.List.{get_or-take, get_or-drop}
use Rattle.element_text.specs.Hex.{NoDigit, Writes}
use Rattle.element_text.proofs.Mapped.{mapped}
use Rattle.element_lists.specs.declared.elements.ElementsFault.TheVariants.{Digit}
use Rattle.element_lists.proofs.elements.element_at.Goals as goal

pub returns : goal.returns
returns g c =
    let n = c.args.digits in
    let from = c.args.i * (n + 1) in
    let text = c.args.text.now in
    let same : from + n - from ≡ n = omega arith in
    mapped c.parse_digits.result c.map_err.result c.parse_digits.ensures c.map_err.ensures.cases
    (λ x w. (subst (λ m. Writes (take m (drop from text)) (g.L.Level.means x)) same w, search rules))
    (λ fault z e made.
    let at = fault.at in
    let is : z ≡ Digit (from + at + 1) = search rules in
    let inside : at < from + n - from = omega (arith, e.0, c.requires) in
    let here = get_or-take (from + n - from) (drop from text) at 0 inside ∙ get_or-drop from text at 0 in
    let rest : (from + at) % (n + 1) ≡ at = mod-mul-add c.args.i (n + 1) at (omega arith) in
    let early : (from + at) % (n + 1) < n = omega arith in
    rw is (
      from + at,
      refl,
      omega (arith, c.requires),
      subst (λ m. (from + at) % (m + 1) < m) c.requires.0 early,
      subst NoDigit here e.1.no_digit,
    ))
