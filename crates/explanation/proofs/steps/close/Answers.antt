use Rattle.std.proofs.Common.{arith}
use lib.ListN.{length-map}
use Rattle.opening.specs.Openings.{opening_of}
use Rattle.explanation.proofs.Closing.{as_wide, few_coordinates}
use Rattle.explanation.proofs.steps.close.Goals as goal

pub closing_value-requires : goal.closing_value-requires
closing_value-requires g c =
    let m = g.L.Level in
    let r = c.args.batch.now.reduction in
    let few = few_coordinates g.met.L.Level.ring (opening_of m r) (omega (arith, r.few, length-map r.point.now m.means)) in
    omega (arith, few, as_wide _ _ c.in_ok-check_closing.ensures)

pub returns : goal.returns
returns g c = (c.in_ok-check_closing.ensures, c.closing_value.ensures.closing (as_wide _ _ c.in_ok-check_closing.ensures))
