use Rattle.std.proofs.Common.{◌≡◌, ◌-◌, ◌≤◌, map, length, ap, ◌∙◌, arith}
use lib.ListN.{length-map}
use Rattle.reduction.proofs.Fitting.{outer_fits, inner_fits}
use Rattle.reduction.proofs.over.slot_factors.Goals as goal

pub factors_into-requires-clause-outers : goal.factors_into-requires-clause-outers
factors_into-requires-clause-outers g c =
    let n = length-map c.opening_at-reduction.result.point.now g.L.Level.means ∙ ap length c.opening_at-reduction.ensures.point ∙ c.requires.fits.len in
    let short : length c.rest.result.now ≤ c.args.opened.variables - g.L.Level.log = omega (arith, c.rest.ensures.len, n) in
    omega (arith, outer_fits g.L.Level.log c.args.opened.variables (length c.rest.result.now) short, c.requires.outers)

pub factors_into-requires-clause-inners : goal.factors_into-requires-clause-inners
factors_into-requires-clause-inners g c =
    let n = length-map c.opening_at-reduction.result.point.now g.L.Level.means ∙ ap length c.opening_at-reduction.ensures.point ∙ c.requires.fits.len in
    let short : length c.rest.result.now ≤ c.args.opened.variables - g.L.Level.log = omega (arith, c.rest.ensures.len, n) in
    omega (arith, inner_fits g.L.Level.log c.args.opened.variables (length c.rest.result.now) short, c.requires.inners)
