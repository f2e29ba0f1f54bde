use Rattle.std.proofs.Common.{◌≡◌, ◌<◌, map, length, ap, ◌∙◌, arith}
use lib.ListN.{length-map}
use Rattle.std.specs.Option.{unwrap_or}
use Rattle.opening.proofs.Prefixes.{kept_or_none}
use Rattle.opening.proofs.bit_ring_switch.BitRingSwitch.columns.Goals as goal

pub new-requires : goal.new-requires
new-requires g c =
    let e = c.unwrap_or.ensures ∙ ap (λ o. unwrap_or o 0) c.kept_row_variables.ensures ∙ kept_or_none g.L.Level.log c.args.self.now.view in
    omega (arith, e, c.args.self.now.rows, c.args.self.now.few)

pub returns : goal.returns
returns g c = c.new.ensures ∙ c.unwrap_or.ensures ∙ ap (λ o. unwrap_or o 0) c.kept_row_variables.ensures ∙ kept_or_none g.L.Level.log c.args.self.now.view
